-- What the status says about a command.
use Rattle.std.proofs.Common.{◌≡◌, ◌≢◌, ℕ, ◌+◌, ◌<◌, ◌≤◌, ◌↔◌, ◌⊎◌, inl, inr, Bool, true, false, List, [], Option, Some, None, Err, length, refl, sym, ap, ◌∙◌, subst, arith}
use Rattle.std.specs.Prelude.{IfSome, IsNone, IsSome}
use Rattle.std.specs.Io.KnownBytes.{Consumes, IsAtEnd}
use Rattle.command_line.specs.declared.command.Command.{Command}
use Rattle.ima_io.proofs.Consuming.{given_whole, given_within, if_each}
use Rattle.ima_top.specs.NotDone.{not_done_line, not_done_status}
use Rattle.ima_top.specs.Served.{IsPastReading, OnInput, Performed, Serves, WrotePart, WroteWhole, input_left}
use Rattle.ima_top.specs.Words.{reads_input}
use Rattle.ima_top.specs.commands.Table.{reads, refusal}
use Rattle.ima_top.specs.declared.not_done.NotDone.{NotDone}
use Rattle.ima_top.specs.declared.not_done.NotDone.TheVariants as why
use Rattle.ima_top.specs.Statuses as exit
use Rattle.ima_top.specs.Limits.{most_input}

-- ---- the output that was written, and the reason

-- a status at which nothing was written isn't one at which something was
none_written : (s : ℕ) (A : Type 0) → s ≢ exit.done → s ≢ exit.stuck → s ≢ exit.write_fault
    → (s ≡ exit.done) ⊎ (s ≡ exit.stuck) ⊎ (s ≡ exit.write_fault) → A
none_written s A done stuck fault h = elim h [
  | inl is ↦ absurd (done is)
  | inr more ↦ elim more [ inl is ↦ absurd (stuck is) | inr is ↦ absurd (fault is) ]
]

fits : (command : Command) (input : List ℕ) (w : NotDone) (old new : Option (List ℕ))
    → Performed command input old new (Err w)
    → (not_done_status w ≡ exit.done) ⊎ (not_done_status w ≡ exit.stuck)
    ⊎ (not_done_status w ≡ exit.write_fault) → refusal command input ≡ None
fits command input why.Usage old new p h =
    none_written exit.usage _ (omega arith) (omega arith) (omega arith) h
fits command input (why.Refused line) old new p h =
    none_written exit.refused _ (omega arith) (omega arith) (omega arith) h
fits command input why.Stuck old new p h = p.0
fits command input why.ReadFault old new p h =
    none_written exit.read_fault _ (omega arith) (omega arith) (omega arith) h
fits command input why.WriteFault old new p h = p.0
fits command input why.TooLong old new p h =
    none_written exit.too_long _ (omega arith) (omega arith) (omega arith) h
fits command input why.OutOfMemory old new p h =
    none_written exit.out_of_memory _ (omega arith) (omega arith) (omega arith) h

written_stuck : (command : Command) (input : List ℕ) (w : NotDone) (old new : Option (List ℕ))
    → Performed command input old new (Err w) → not_done_status w ≡ exit.stuck
    → WroteWhole command input true old new
written_stuck command input why.Usage old new p h = absurd (omega (arith, h))
written_stuck command input (why.Refused line) old new p h = absurd (omega (arith, h))
written_stuck command input why.Stuck old new p h = p.1
written_stuck command input why.ReadFault old new p h = absurd (omega (arith, h))
written_stuck command input why.WriteFault old new p h = absurd (omega (arith, h))
written_stuck command input why.TooLong old new p h = absurd (omega (arith, h))
written_stuck command input why.OutOfMemory old new p h = absurd (omega (arith, h))

written_in_part : (command : Command) (input : List ℕ) (w : NotDone) (old new : Option (List ℕ))
    → Performed command input old new (Err w) → not_done_status w ≡ exit.write_fault
    → WrotePart command input old new
written_in_part command input why.Usage old new p h = absurd (omega (arith, h))
written_in_part command input (why.Refused line) old new p h = absurd (omega (arith, h))
written_in_part command input why.Stuck old new p h = absurd (omega (arith, h))
written_in_part command input why.ReadFault old new p h = absurd (omega (arith, h))
written_in_part command input why.WriteFault old new p h = p.1
written_in_part command input why.TooLong old new p h = absurd (omega (arith, h))
written_in_part command input why.OutOfMemory old new p h = absurd (omega (arith, h))

not_written : (w : NotDone) → not_done_status w ≢ exit.done
not_written why.Usage h = omega (arith, h)
not_written (why.Refused line) h = omega (arith, h)
not_written why.Stuck h = omega (arith, h)
not_written why.ReadFault h = omega (arith, h)
not_written why.WriteFault h = omega (arith, h)
not_written why.TooLong h = omega (arith, h)
not_written why.OutOfMemory h = omega (arith, h)

-- the line of a refusal is the line that refuses the input
refused_line : (command : Command) (input : List ℕ) (w : NotDone) (old new : Option (List ℕ))
    → Performed command input old new (Err w) → not_done_status w ≡ exit.refused
    → refusal command input ≡ Some (not_done_line w)
refused_line command input why.Usage old new p h = absurd (omega (arith, h))
refused_line command input (why.Refused line) old new p h = p
refused_line command input why.Stuck old new p h = absurd (omega (arith, h))
refused_line command input why.ReadFault old new p h = absurd (omega (arith, h))
refused_line command input why.WriteFault old new p h = absurd (omega (arith, h))
refused_line command input why.TooLong old new p h = absurd (omega (arith, h))
refused_line command input why.OutOfMemory old new p h = absurd (omega (arith, h))

is_some_of : (o : Option (List ℕ)) (line : List ℕ) → o ≡ Some line → IsSome o
is_some_of o line h = subst (λ (x : Option (List ℕ)). IsSome x) (sym h) refl

if_some_of : (o : Option (List ℕ)) (line : List ℕ) (P : List ℕ → Type 0) → o ≡ Some line
    → P line → IfSome o P
if_some_of o line P h p = subst (λ (x : Option (List ℕ)). IfSome x P) (sym h) p

-- the result of a command is what its status says, if the reason's line is on the note
serves : (command : Command) (input : List ℕ) (w : NotDone) (old new : Option (List ℕ))
    (told : List ℕ → Type 0) → length input ≤ most_input + 1
    → (not_done_status w ≡ exit.too_long) ↔ (most_input < length input)
    → Performed command input old new (Err w) → told (not_done_line w)
    → Serves command input (not_done_status w) old new told
serves command input w old new told asked long p t = record {
  asked = asked;
  too_long = long;
  fits = λ h. fits command input w old new p h;
  refused = λ h. is_some_of (refusal command input) (not_done_line w)
      (refused_line command input w old new p h);
  written = λ h. absurd (not_written w h);
  written_stuck = λ h. written_stuck command input w old new p h;
  written_in_part = λ h. written_in_part command input w old new p h;
  told_cause = λ h. if_some_of (refusal command input) (not_done_line w) told
      (refused_line command input w old new p h) t;
}

-- what the command's result says about its input, for a command that wasn't done
abbrev IsPerformed : Option (List ℕ) → Option (List ℕ) → Option (List ℕ) → Option (List ℕ)
    → NotDone → Command → Type 0
IsPerformed before after old new w command = OnInput (reads command) before after (λ input.
    (length input ≤ most_input + 1)
    × ((not_done_status w ≡ exit.too_long) ↔ (most_input < length input))
    × Performed command input old new (Err w))

serves_any : (o : Option Command) (before after old new : Option (List ℕ)) (w : NotDone)
    (told : List ℕ → Type 0) → IfSome o (IsPerformed before after old new w)
    → told (not_done_line w) → IfSome o (λ command. OnInput (reads command) before after
    (λ input. Serves command input (not_done_status w) old new told))
serves_any None before after old new w told i t = tt
serves_any (Some command) before after old new w told i t = record {
  input = i.input;
  given = i.given;
  unread = i.unread;
  holds = serves command i.input w old new told i.holds.0 i.holds.1 i.holds.2 t;
}

-- a status and a line that are those of the reason say what the command's result does
pub served_not_done : (o : Option Command) (before after old new : Option (List ℕ)) (w : NotDone)
    (told : List ℕ → Type 0) (s : ℕ) (line : List ℕ) → s ≡ not_done_status w
    → line ≡ not_done_line w → IfSome o (IsPerformed before after old new w) → told line
    → IfSome o (λ command. OnInput (reads command) before after
    (λ input. Serves command input s old new told))
served_not_done o before after old new w told s line is says i t =
    let P : ℕ → Type 0 = λ n. IfSome o (λ command. OnInput (reads command) before after
    (λ input. Serves command input n old new told)) in
    subst P (sym is) (serves_any o before after old new w told i (subst told says t))

-- ---- a command that was done

-- the result of a command that was done is what its status says
done_serves : (command : Command) (input : List ℕ) (old new : Option (List ℕ))
    (told : List ℕ → Type 0) → length input ≤ most_input + 1
    → (exit.done ≡ exit.too_long) ↔ (most_input < length input)
    → refusal command input ≡ None → WroteWhole command input false old new
    → Serves command input exit.done old new told
done_serves command input old new told asked long kept wrote = record {
  asked = asked;
  too_long = long;
  fits = λ h. kept;
  refused = λ h. absurd (omega (arith, h));
  written = λ h. wrote;
  written_stuck = λ h. absurd (omega (arith, h));
  written_in_part = λ h. absurd (omega (arith, h));
  told_cause = λ h. absurd (omega (arith, h));
}

-- what the command's result says about its input, for a command that was done
abbrev IsDone : Option (List ℕ) → Option (List ℕ) → Option (List ℕ) → Option (List ℕ) → Command
    → Type 0
IsDone before after old new command = OnInput (reads command) before after (λ input.
    (length input ≤ most_input + 1)
    × ((exit.done ≡ exit.too_long) ↔ (most_input < length input))
    × ((refusal command input ≡ None) × WroteWhole command input false old new))

-- the status of a command that was done says what its result does
pub served_done : (o : Option Command) (before after old new : Option (List ℕ))
    (told : List ℕ → Type 0) → IfSome o (IsDone before after old new)
    → IfSome o (λ command. OnInput (reads command) before after
    (λ input. Serves command input exit.done old new told))
served_done None before after old new told i = tt
served_done (Some command) before after old new told i = record {
  input = i.input;
  given = i.given;
  unread = i.unread;
  holds = done_serves command i.input old new told i.holds.0 i.holds.1 i.holds.2.0 i.holds.2.1;
}

-- ---- completeness

input_within : (reads : Bool) (before after : Option (List ℕ)) (input left : List ℕ)
    → (reads ≡ true → Consumes before after input) → (reads ≡ false → input ≡ [])
    → input_left reads before ≡ Some left → length input ≤ length left
input_within true before after input left given unread e =
    given_within input left before after (given refl) e
input_within false before after input left given unread e =
    let none : length input ≡ 0 = ap length (unread refl) in omega arith

input_whole : (reads : Bool) (before after : Option (List ℕ)) (input left : List ℕ)
    → (reads ≡ true → Consumes before after input) → (reads ≡ false → input ≡ [])
    → (reads ≡ true → IsAtEnd after) → input_left reads before ≡ Some left → input ≡ left
input_whole true before after input left given unread at e =
    given_whole input left before after (given refl) (at refl) e
input_whole false before after input left given unread at e =
    let none : [] ≡ left = cc in unread refl ∙ none

-- the input isn't too long, and is in the command's grammar
record IsAnswerable (command : Command) (input : List ℕ) : Type 0 where
  short : length input ≤ most_input
  kept : refusal command input ≡ None

-- an option that has a command isn't empty
not_none : (command : Command) → IsNone (Some command) → ⊥
not_none command h = cc

-- the statuses with which an input may be answered, or one of the streams has failed
abbrev IsComplete : ℕ → Type 0 → Type 0 → Type 0
IsComplete s source sink =
    (s ≡ exit.done) ⊎ (s ≡ exit.stuck) ⊎ (s ≡ exit.out_of_memory) ⊎ source ⊎ sink

-- an input in the grammar isn't refused
not_refused : (command : Command) (input left line : List ℕ) → IsAnswerable command left
    → input ≡ left → refusal command input ≡ Some line → ⊥
not_refused command input left line a same h =
    let is : refusal command left ≡ Some line =
    ap (λ (l : List ℕ). refusal command l) (sym same) ∙ h
    in absurd (cc (a.kept, is))

complete : (command : Command) (before after old new : Option (List ℕ)) (left : List ℕ)
    (w : NotDone) (source sink : Type 0)
    → (not_done_status w ≡ exit.usage → IsNone (Some command))
    → (reads command ≡ true → IsPastReading (not_done_status w) → IsAtEnd after)
    → (not_done_status w ≡ exit.read_fault → source) → (not_done_status w ≡ exit.write_fault → sink)
    → IsPerformed before after old new w command
    → input_left (reads command) before ≡ Some left → IsAnswerable command left
    → IsComplete (not_done_status w) source sink
complete command before after old new left why.Usage source sink usage at read write i e a =
    absurd (not_none command (usage refl))
complete command before after old new left (why.Refused line) source sink usage at read write i e
    a =
    let same = input_whole (reads command) before after i.input left i.given i.unread
    (λ is. at is (inr (inl refl))) e in
    absurd (not_refused command i.input left line.items a same i.holds.2)
complete command before after old new left why.Stuck source sink usage at read write i e a =
    inr (inl refl)
complete command before after old new left why.ReadFault source sink usage at read write i e a =
    inr (inr (inr (inl (read refl))))
complete command before after old new left why.WriteFault source sink usage at read write i e a =
    inr (inr (inr (inr (write refl))))
complete command before after old new left why.TooLong source sink usage at read write i e a =
    let within = input_within (reads command) before after i.input left i.given i.unread e in
    let long : most_input < length i.input = i.holds.1.0 refl in
    let short : length left ≤ most_input = a.short in absurd (omega (arith, within, long, short))
complete command before after old new left why.OutOfMemory source sink usage at read write i e a =
    inr (inr (inl refl))

complete_any : (o : Option Command) (before after old new : Option (List ℕ)) (w : NotDone)
    (source sink : Type 0) → (not_done_status w ≡ exit.usage → IsNone o)
    → (reads_input o ≡ true → IsPastReading (not_done_status w) → IsAtEnd after)
    → (not_done_status w ≡ exit.read_fault → source) → (not_done_status w ≡ exit.write_fault → sink)
    → IfSome o (IsPerformed before after old new w)
    → IfSome o (λ command. IfSome (input_left (reads command) before) (λ left.
    length left ≤ most_input → refusal command left ≡ None
    → IsComplete (not_done_status w) source sink))
complete_any None before after old new w source sink usage at read write i = tt
complete_any (Some command) before after old new w source sink usage at read write i =
    if_each (input_left (reads command) before) _
    (λ left e short kept. complete command before after old new left w source sink usage at read
    write i e (record { short = short; kept = kept }))

pub complete_not_done : (o : Option Command) (before after old new : Option (List ℕ)) (w : NotDone)
    (source sink : Type 0) (s : ℕ) → s ≡ not_done_status w
    → (not_done_status w ≡ exit.usage → IsNone o)
    → (reads_input o ≡ true → IsPastReading (not_done_status w) → IsAtEnd after)
    → (not_done_status w ≡ exit.read_fault → source) → (not_done_status w ≡ exit.write_fault → sink)
    → IfSome o (IsPerformed before after old new w)
    → IfSome o (λ command. IfSome (input_left (reads command) before) (λ left.
    length left ≤ most_input → refusal command left ≡ None → IsComplete s source sink))
complete_not_done o before after old new w source sink s is usage at read write i =
    let P : ℕ → Type 0 = λ n. IfSome o (λ command. IfSome (input_left (reads command) before)
    (λ left. length left ≤ most_input → refusal command left ≡ None → IsComplete n source sink)) in
    subst P (sym is) (complete_any o before after old new w source sink usage at read write i)
