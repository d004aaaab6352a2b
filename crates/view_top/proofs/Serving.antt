-- What the status says about the answer to the input.
use Rattle.std.proofs.Common.{◌≡◌, ◌≢◌, ℕ, ◌+◌, ◌<◌, ◌≤◌, ◌↔◌, ◌⊎◌, inl, inr, List, Option, Some, None, Err, length, refl, sym, ap, subst, arith}
use Rattle.std.specs.Prelude.{IfSome, IsNone, IsSomeAnd}
use Rattle.std.specs.Io.KnownBytes.{IsAtEnd}
use Rattle.ima_io.proofs.Consuming.{given_whole, given_within, if_each}
use Rattle.ima_io.specs.Bytes.{Gave}
use Rattle.view_top.specs.Answer.{Answer, Page, BadLine, NoPlace, answer_of, refusal_in}
use Rattle.view_top.specs.Limits.{most_input}
use Rattle.view_top.specs.NotDone.{not_done_line, not_done_status}
use Rattle.view_top.specs.Served.{IsPastReading, Performed, Serves, WrotePart, WroteWhole, status_by}
use Rattle.view_top.specs.Statuses as exit
use Rattle.view_top.specs.declared.command.Command.{Command}
use Rattle.view_top.specs.declared.not_done.NotDone.{NotDone}
use Rattle.view_top.specs.declared.not_done.NotDone.TheVariants as why

-- ---- the parts of what a status says

written_in_part : (a : Answer) (w : NotDone) (old new : Option (List ℕ))
    → Performed a old new (Err w) → not_done_status w ≡ exit.write_fault → WrotePart a old new
written_in_part a why.Usage old new p h = absurd (omega (arith, h))
written_in_part a (why.Refused line) old new p h = absurd (omega (arith, h))
written_in_part a why.NoPlace old new p h = absurd (omega (arith, h))
written_in_part a why.ReadFault old new p h = absurd (omega (arith, h))
written_in_part a why.WriteFault old new p h = p
written_in_part a why.TooLong old new p h = absurd (omega (arith, h))
written_in_part a why.OutOfMemory old new p h = absurd (omega (arith, h))

not_written : (w : NotDone) → not_done_status w ≢ exit.done
not_written why.Usage h = omega (arith, h)
not_written (why.Refused line) h = omega (arith, h)
not_written why.NoPlace h = omega (arith, h)
not_written why.ReadFault h = omega (arith, h)
not_written why.WriteFault h = omega (arith, h)
not_written why.TooLong h = omega (arith, h)
not_written why.OutOfMemory h = omega (arith, h)

some_and : (o : Option (List ℕ)) (x : List ℕ) (P : List ℕ → Type 0) → o ≡ Some x → P x
    → IsSomeAnd o P
some_and o x P is p = subst (λ (y : Option (List ℕ)). IsSomeAnd y P) (sym is) p

-- the line of a refusal is the line that refuses the input
refused : (a : Answer) (w : NotDone) (old new : Option (List ℕ)) (told : List ℕ → Type 0)
    → Performed a old new (Err w) → told (not_done_line w) → not_done_status w ≡ exit.refused
    → IsSomeAnd (refusal_in a) told
refused a why.Usage old new told p t h = absurd (omega (arith, h))
refused a (why.Refused line) old new told p t h = some_and (refusal_in a) line.items told p t
refused a why.NoPlace old new told p t h = absurd (omega (arith, h))
refused a why.ReadFault old new told p t h = absurd (omega (arith, h))
refused a why.WriteFault old new told p t h = absurd (omega (arith, h))
refused a why.TooLong old new told p t h = absurd (omega (arith, h))
refused a why.OutOfMemory old new told p t h = absurd (omega (arith, h))

no_place : (a : Answer) (w : NotDone) (old new : Option (List ℕ)) → Performed a old new (Err w)
    → not_done_status w ≡ exit.no_place → a ≡ NoPlace
no_place a why.Usage old new p h = absurd (omega (arith, h))
no_place a (why.Refused line) old new p h = absurd (omega (arith, h))
no_place a why.NoPlace old new p h = p
no_place a why.ReadFault old new p h = absurd (omega (arith, h))
no_place a why.WriteFault old new p h = absurd (omega (arith, h))
no_place a why.TooLong old new p h = absurd (omega (arith, h))
no_place a why.OutOfMemory old new p h = absurd (omega (arith, h))

-- ---- what a status says

-- how long the input is, and what was done with the answer to it
record Knows (a : Answer) (input : List ℕ) (w : NotDone) (old new : Option (List ℕ)) : Type 0 where
  asked : length input ≤ most_input + 1
  too_long : (not_done_status w ≡ exit.too_long) ↔ (most_input < length input)
  done : Performed a old new (Err w)

serves : (a : Answer) (input : List ℕ) (w : NotDone) (old new : Option (List ℕ))
    (told : List ℕ → Type 0) → Knows a input w old new → told (not_done_line w)
    → Serves a input (not_done_status w) old new told
serves a input w old new told k t = record {
  asked = k.asked;
  too_long = k.too_long;
  written = λ h. absurd (not_written w h);
  written_in_part = λ h. written_in_part a w old new k.done h;
  refused = λ h. refused a w old new told k.done t h;
  no_place = λ h. no_place a w old new k.done h;
}

-- what the result says about the input, if no page was written
abbrev IsPerformed : Option (List ℕ) → Option (List ℕ) → Option (List ℕ) → Option (List ℕ)
    → NotDone → Command → Type 0
IsPerformed before after old new w command = Gave before after (λ input.
    (length input ≤ most_input + 1)
    × ((not_done_status w ≡ exit.too_long) ↔ (most_input < length input))
    × Performed (answer_of command input) old new (Err w))

serves_any : (o : Option Command) (before after old new : Option (List ℕ)) (w : NotDone)
    (told : List ℕ → Type 0) → IfSome o (IsPerformed before after old new w)
    → told (not_done_line w) → IfSome o (λ command. Gave before after
    (λ input. Serves (answer_of command input) input (not_done_status w) old new told))
serves_any None before after old new w told i t = tt
serves_any (Some command) before after old new w told i t = (
  i.0,
  i.1,
  serves (answer_of command i.0) i.0 w old new told
      (record { asked = i.2.0; too_long = i.2.1; done = i.2.2 }) t,
)

-- a status and a line that are those of the reason say what the result does
pub served_not_done : (o : Option Command) (before after old new : Option (List ℕ)) (w : NotDone)
    (told : List ℕ → Type 0) (s : ℕ) (line : List ℕ) → s ≡ not_done_status w
    → line ≡ not_done_line w → IfSome o (IsPerformed before after old new w) → told line
    → IfSome o (λ command. Gave before after
    (λ input. Serves (answer_of command input) input s old new told))
served_not_done o before after old new w told s line is says i t =
    let P : ℕ → Type 0 = λ n. IfSome o (λ command. Gave before after
    (λ input. Serves (answer_of command input) input n old new told)) in
    subst P (sym is) (serves_any o before after old new w told i (subst told says t))

-- ---- a page that was written

done_serves : (a : Answer) (input : List ℕ) (old new : Option (List ℕ)) (told : List ℕ → Type 0)
    → length input ≤ most_input + 1 → (exit.done ≡ exit.too_long) ↔ (most_input < length input)
    → WroteWhole a old new → Serves a input exit.done old new told
done_serves a input old new told asked long wrote = record {
  asked = asked;
  too_long = long;
  written = λ h. wrote;
  written_in_part = λ h. absurd (omega (arith, h));
  refused = λ h. absurd (omega (arith, h));
  no_place = λ h. absurd (omega (arith, h));
}

-- what the result says about the input, if a page was written
abbrev IsDone : Option (List ℕ) → Option (List ℕ) → Option (List ℕ) → Option (List ℕ) → Command
    → Type 0
IsDone before after old new command = Gave before after (λ input.
    (length input ≤ most_input + 1)
    × ((exit.done ≡ exit.too_long) ↔ (most_input < length input))
    × WroteWhole (answer_of command input) old new)

pub served_done : (o : Option Command) (before after old new : Option (List ℕ))
    (told : List ℕ → Type 0) → IfSome o (IsDone before after old new)
    → IfSome o (λ command. Gave before after
    (λ input. Serves (answer_of command input) input exit.done old new told))
served_done None before after old new told i = tt
served_done (Some command) before after old new told i =
    (i.0, i.1, done_serves (answer_of command i.0) i.0 old new told i.2.0 i.2.1 i.2.2)

-- ---- completeness

-- an option that has a command isn't empty
not_none : (command : Command) → IsNone (Some command) → ⊥
not_none command h = cc

-- the status is that of the answer, or memory ran out, or one of the streams has failed
abbrev IsComplete : ℕ → Answer → Type 0 → Type 0 → Type 0
IsComplete s a source sink =
    (s ≡ status_by a) ⊎ (s ≡ exit.out_of_memory) ⊎ source ⊎ sink

refused_status : (a : Answer) (line : List ℕ) → refusal_in a ≡ Some line
    → exit.refused ≡ status_by a
refused_status (Page page) line h = absurd (cc h)
refused_status (BadLine number) line h = refl
refused_status NoPlace line h = absurd (cc h)

done_status : (a : Answer) (old new : Option (List ℕ)) → WroteWhole a old new
    → exit.done ≡ status_by a
done_status (Page page) old new h = refl
done_status (BadLine number) old new h = absurd h
done_status NoPlace old new h = absurd h

-- what is known of a call, and of what its source had left
record Call (command : Command) (before after old new : Option (List ℕ)) (w : NotDone)
    (source sink : Type 0) : Type 0 where
  words : not_done_status w ≡ exit.usage → IsNone (Some command)
  at_end : IsPastReading (not_done_status w) → IsAtEnd after
  read_fault : not_done_status w ≡ exit.read_fault → source
  write_fault : not_done_status w ≡ exit.write_fault → sink
  performed : IsPerformed before after old new w command

complete : (command : Command) (before after old new : Option (List ℕ)) (left : List ℕ)
    (w : NotDone) (source sink : Type 0) → Call command before after old new w source sink
    → before ≡ Some left → length left ≤ most_input
    → IsComplete (not_done_status w) (answer_of command left) source sink
complete command before after old new left why.Usage source sink k e short =
    absurd (not_none command (k.words refl))
complete command before after old new left (why.Refused line) source sink k e short =
    let same = given_whole k.performed.0 left before after k.performed.1
    (k.at_end (inr (inl refl))) e in
    inl (subst (λ (l : List ℕ). exit.refused ≡ status_by (answer_of command l)) same
    (refused_status (answer_of command k.performed.0) line.items k.performed.2.2))
complete command before after old new left why.NoPlace source sink k e short =
    let same = given_whole k.performed.0 left before after k.performed.1
    (k.at_end (inr (inr (inl refl)))) e in
    inl (subst (λ (l : List ℕ). exit.no_place ≡ status_by (answer_of command l)) same
    (sym (ap status_by k.performed.2.2)))
complete command before after old new left why.ReadFault source sink k e short =
    inr (inr (inl (k.read_fault refl)))
complete command before after old new left why.WriteFault source sink k e short =
    inr (inr (inr (k.write_fault refl)))
complete command before after old new left why.TooLong source sink k e short =
    let within = given_within k.performed.0 left before after k.performed.1 e in
    let long : most_input < length k.performed.0 = k.performed.2.1.0 refl in
    absurd (omega (arith, within, long, short))
complete command before after old new left why.OutOfMemory source sink k e short =
    inr (inl refl)

complete_any : (o : Option Command) (before after old new : Option (List ℕ)) (w : NotDone)
    (source sink : Type 0) → (not_done_status w ≡ exit.usage → IsNone o)
    → (IsPastReading (not_done_status w) → IsAtEnd after)
    → (not_done_status w ≡ exit.read_fault → source) → (not_done_status w ≡ exit.write_fault → sink)
    → IfSome o (IsPerformed before after old new w)
    → IfSome o (λ command. IfSome before (λ left. length left ≤ most_input
    → IsComplete (not_done_status w) (answer_of command left) source sink))
complete_any None before after old new w source sink words at read write i = tt
complete_any (Some command) before after old new w source sink words at read write i =
    if_each before _ (λ left e short. complete command before after old new left w source sink
    (record {
      words = words;
      at_end = at;
      read_fault = read;
      write_fault = write;
      performed = i;
    }) e short)

pub complete_not_done : (o : Option Command) (before after old new : Option (List ℕ)) (w : NotDone)
    (source sink : Type 0) (s : ℕ) → s ≡ not_done_status w
    → (not_done_status w ≡ exit.usage → IsNone o)
    → (IsPastReading (not_done_status w) → IsAtEnd after)
    → (not_done_status w ≡ exit.read_fault → source) → (not_done_status w ≡ exit.write_fault → sink)
    → IfSome o (IsPerformed before after old new w)
    → IfSome o (λ command. IfSome before (λ left. length left ≤ most_input
    → IsComplete s (answer_of command left) source sink))
complete_not_done o before after old new w source sink s is words at read write i =
    let P : ℕ → Type 0 = λ n. IfSome o (λ command. IfSome before (λ left.
    length left ≤ most_input → IsComplete n (answer_of command left) source sink)) in
    subst P (sym is) (complete_any o before after old new w source sink words at read write i)

pub complete_done : (o : Option Command) (before after old new : Option (List ℕ))
    (source sink : Type 0) → IsAtEnd after → IfSome o (IsDone before after old new)
    → IfSome o (λ command. IfSome before (λ left. length left ≤ most_input
    → IsComplete exit.done (answer_of command left) source sink))
complete_done None before after old new source sink at i = tt
complete_done (Some command) before after old new source sink at i =
    if_each before _ (λ left e short.
    let same = given_whole i.0 left before after i.1 at e in
    inl (subst (λ (l : List ℕ). exit.done ≡ status_by (answer_of command l)) same
    (done_status (answer_of command i.0) old new i.2.2)))
