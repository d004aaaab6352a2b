-- What the status says about the input.
use Rattle.std.proofs.Common.{◌≡◌, ℕ, ◌+◌, ◌<◌, ◌≤◌, ◌↔◌, ◌⊎◌, inl, inr, List, Option, Some, None, Err, length, refl, sym, ap, ◌∙◌, subst, arith}
use Rattle.std.specs.Prelude.{IfSome, IsNone, IsSome}
use Rattle.std.specs.Io.KnownBytes.{IsAtEnd}
use Rattle.ima_io.proofs.Consuming.{given_whole, given_within, if_each}
use Rattle.order_top.specs.Limits.{most_input}
use Rattle.order_top.specs.NotDone.{not_done_line, not_done_status, refusal, too_many_line}
use Rattle.order_top.specs.Served.{IsPastReading, IsStopped, OnInput, Performed, Serves, WrotePart, WroteWhole}
use Rattle.order_top.specs.declared.not_done.NotDone.{NotDone}
use Rattle.order_top.specs.declared.not_done.NotDone.TheVariants as why
use Rattle.order_top.specs.Words.{AskedValue}
use Rattle.order_top.specs.Statuses as exit

-- ---- the output that was written, and the reason

module _ (asked : AskedValue) (input : List ℕ) (old new : Option (List ℕ)) where
  written_in_part : (w : NotDone) → Performed asked input old new (Err w)
      → not_done_status w ≡ exit.write_fault → WrotePart asked.first input old new
  written_in_part why.Usage p h = absurd (omega (arith, h))
  written_in_part (why.Refused line) p h = absurd (omega (arith, h))
  written_in_part (why.TooMany line) p h = absurd (omega (arith, h))
  written_in_part why.ReadFault p h = absurd (omega (arith, h))
  written_in_part why.WriteFault p h = p
  written_in_part why.TooLong p h = absurd (omega (arith, h))
  written_in_part why.OutOfMemory p h = absurd (omega (arith, h))

  -- the line of a refusal is the line that refuses the input
  refused_line : (w : NotDone) → Performed asked input old new (Err w)
      → not_done_status w ≡ exit.refused → refusal input ≡ Some (not_done_line w)
  refused_line why.Usage p h = absurd (omega (arith, h))
  refused_line (why.Refused line) p h = p
  refused_line (why.TooMany line) p h = absurd (omega (arith, h))
  refused_line why.ReadFault p h = absurd (omega (arith, h))
  refused_line why.WriteFault p h = absurd (omega (arith, h))
  refused_line why.TooLong p h = absurd (omega (arith, h))
  refused_line why.OutOfMemory p h = absurd (omega (arith, h))

  -- the script has too much, and the line says so
  stopped : (w : NotDone) → Performed asked input old new (Err w)
      → not_done_status w ≡ exit.too_many
      → (not_done_line w ≡ too_many_line asked.most) × IsStopped asked input
  stopped why.Usage p h = absurd (omega (arith, h))
  stopped (why.Refused line) p h = absurd (omega (arith, h))
  stopped (why.TooMany line) p h = p
  stopped why.ReadFault p h = absurd (omega (arith, h))
  stopped why.WriteFault p h = absurd (omega (arith, h))
  stopped why.TooLong p h = absurd (omega (arith, h))
  stopped why.OutOfMemory p h = absurd (omega (arith, h))

pub not_written : (w : NotDone) → not_done_status w ≡ exit.done → ⊥
not_written why.Usage h = omega (arith, h)
not_written (why.Refused line) h = omega (arith, h)
not_written (why.TooMany line) h = omega (arith, h)
not_written why.ReadFault h = omega (arith, h)
not_written why.WriteFault h = omega (arith, h)
not_written why.TooLong h = omega (arith, h)
not_written why.OutOfMemory h = omega (arith, h)

is_some_of : (o : Option (List ℕ)) (line : List ℕ) → o ≡ Some line → IsSome o
is_some_of o line h = subst (λ (x : Option (List ℕ)). IsSome x) (sym h) refl

if_some_of : (o : Option (List ℕ)) (line : List ℕ) (P : List ℕ → Type 0) → o ≡ Some line
    → P line → IfSome o P
if_some_of o line P h p = subst (λ (x : Option (List ℕ)). IfSome x P) (sym h) p

-- the result is what its status says, if the reason's line is on the note
serves : (asked : AskedValue) (input : List ℕ) (w : NotDone) (old new : Option (List ℕ))
    (told : List ℕ → Type 0) → length input ≤ most_input + 1
    → (not_done_status w ≡ exit.too_long) ↔ (most_input < length input)
    → Performed asked input old new (Err w) → told (not_done_line w)
    → Serves asked input (not_done_status w) old new told
serves asked input w old new told within long p t = record {
  within = within;
  too_long = long;
  written = λ h. absurd (not_written w h);
  written_in_part = λ h. written_in_part asked input old new w p h;
  refused = λ h. is_some_of (refusal input) (not_done_line w)
      (refused_line asked input old new w p h);
  told_cause = λ h. if_some_of (refusal input) (not_done_line w) told
      (refused_line asked input old new w p h) t;
  too_many = λ h. (stopped asked input old new w p h).1;
  told_most = λ h. subst told (stopped asked input old new w p h).0 t;
}

-- what the result says about its input, if nothing was done
abbrev IsPerformed : Option (List ℕ) → Option (List ℕ) → Option (List ℕ) → Option (List ℕ)
    → NotDone → AskedValue → Type 0
IsPerformed before after old new w asked = OnInput before after (λ input.
    (length input ≤ most_input + 1)
    × ((not_done_status w ≡ exit.too_long) ↔ (most_input < length input))
    × Performed asked input old new (Err w))

serves_any : (o : Option AskedValue) (before after old new : Option (List ℕ)) (w : NotDone)
    (told : List ℕ → Type 0) → IfSome o (IsPerformed before after old new w)
    → told (not_done_line w) → IfSome o (λ asked. OnInput before after
    (λ input. Serves asked input (not_done_status w) old new told))
serves_any None before after old new w told i t = tt
serves_any (Some asked) before after old new w told i t = record {
  input = i.input;
  given = i.given;
  holds = serves asked i.input w old new told i.holds.0 i.holds.1 i.holds.2 t;
}

-- a status and a line that are those of the reason say what the result does
pub served_not_done : (o : Option AskedValue) (before after old new : Option (List ℕ)) (w : NotDone)
    (told : List ℕ → Type 0) (s : ℕ) (line : List ℕ) → s ≡ not_done_status w
    → line ≡ not_done_line w → IfSome o (IsPerformed before after old new w) → told line
    → IfSome o (λ asked. OnInput before after (λ input. Serves asked input s old new told))
served_not_done o before after old new w told s line is says i t =
    let P : ℕ → Type 0 = λ n. IfSome o (λ asked. OnInput before after
    (λ input. Serves asked input n old new told)) in
    subst P (sym is) (serves_any o before after old new w told i (subst told says t))

-- ---- rows that were written

-- the result is what its status says, if the rows were written
done_serves : (asked : AskedValue) (input : List ℕ) (old new : Option (List ℕ))
    (told : List ℕ → Type 0) → length input ≤ most_input + 1
    → (exit.done ≡ exit.too_long) ↔ (most_input < length input)
    → WroteWhole asked.first input old new → Serves asked input exit.done old new told
done_serves asked input old new told within long wrote = record {
  within = within;
  too_long = long;
  written = λ h. wrote;
  written_in_part = λ h. absurd (omega (arith, h));
  refused = λ h. absurd (omega (arith, h));
  told_cause = λ h. absurd (omega (arith, h));
  too_many = λ h. absurd (omega (arith, h));
  told_most = λ h. absurd (omega (arith, h));
}

-- what the result says about its input, if the rows were written
abbrev IsDone : Option (List ℕ) → Option (List ℕ) → Option (List ℕ) → Option (List ℕ)
    → AskedValue → Type 0
IsDone before after old new asked = OnInput before after (λ input.
    (length input ≤ most_input + 1)
    × ((exit.done ≡ exit.too_long) ↔ (most_input < length input))
    × WroteWhole asked.first input old new)

pub served_done : (o : Option AskedValue) (before after old new : Option (List ℕ))
    (told : List ℕ → Type 0) → IfSome o (IsDone before after old new)
    → IfSome o (λ asked. OnInput before after
    (λ input. Serves asked input exit.done old new told))
served_done None before after old new told i = tt
served_done (Some asked) before after old new told i = record {
  input = i.input;
  given = i.given;
  holds = done_serves asked i.input old new told i.holds.0 i.holds.1 i.holds.2;
}

-- ---- completeness

-- an option that has a value isn't empty
not_none : (asked : AskedValue) → IsNone (Some asked) → ⊥
not_none asked h = cc

-- the statuses with which a script may be answered, or one of the streams has failed
abbrev IsComplete : ℕ → Type 0 → Type 0 → Type 0
IsComplete s source sink =
    (s ≡ exit.done) ⊎ (s ≡ exit.too_many) ⊎ (s ≡ exit.out_of_memory) ⊎ source ⊎ sink

-- a script isn't refused
not_refused : (input left line : List ℕ) → refusal left ≡ None → input ≡ left
    → refusal input ≡ Some line → ⊥
not_refused input left line kept same h =
    let is : refusal left ≡ Some line = ap refusal (sym same) ∙ h in
    absurd (cc (kept, is))

module _ (asked : AskedValue) (before after old new : Option (List ℕ)) (left : List ℕ)
    (source sink : Type 0) (e : before ≡ Some left) (short : length left ≤ most_input)
    (kept : refusal left ≡ None) where
  complete : (w : NotDone) → (not_done_status w ≡ exit.usage → IsNone (Some asked))
      → (IsPastReading (not_done_status w) → IsAtEnd after)
      → (not_done_status w ≡ exit.read_fault → source)
      → (not_done_status w ≡ exit.write_fault → sink) → IsPerformed before after old new w asked
      → IsComplete (not_done_status w) source sink
  complete why.Usage usage at read write i = absurd (not_none asked (usage refl))
  complete (why.Refused line) usage at read write i =
      let same = given_whole i.input left before after i.given (at (inr (inl refl))) e in
      absurd (not_refused i.input left line.items kept same i.holds.2)
  complete (why.TooMany line) usage at read write i = inr (inl refl)
  complete why.ReadFault usage at read write i = inr (inr (inr (inl (read refl))))
  complete why.WriteFault usage at read write i = inr (inr (inr (inr (write refl))))
  complete why.TooLong usage at read write i =
      let within = given_within i.input left before after i.given e in
      let long : most_input < length i.input = i.holds.1.0 refl in
      absurd (omega (arith, within, long, short))
  complete why.OutOfMemory usage at read write i = inr (inr (inl refl))

complete_any : (o : Option AskedValue) (before after old new : Option (List ℕ)) (w : NotDone)
    (source sink : Type 0) → (not_done_status w ≡ exit.usage → IsNone o)
    → (IsPastReading (not_done_status w) → IsAtEnd after)
    → (not_done_status w ≡ exit.read_fault → source)
    → (not_done_status w ≡ exit.write_fault → sink)
    → IfSome o (IsPerformed before after old new w)
    → IfSome o (λ asked. IfSome before (λ left. length left ≤ most_input → refusal left ≡ None
    → IsComplete (not_done_status w) source sink))
complete_any None before after old new w source sink usage at read write i = tt
complete_any (Some asked) before after old new w source sink usage at read write i =
    if_each before _
    (λ left e short kept. complete asked before after old new left source sink e short kept w usage
    at read write i)

pub complete_not_done : (o : Option AskedValue) (before after old new : Option (List ℕ))
    (w : NotDone) (source sink : Type 0) (s : ℕ) → s ≡ not_done_status w
    → (not_done_status w ≡ exit.usage → IsNone o)
    → (IsPastReading (not_done_status w) → IsAtEnd after)
    → (not_done_status w ≡ exit.read_fault → source)
    → (not_done_status w ≡ exit.write_fault → sink)
    → IfSome o (IsPerformed before after old new w)
    → IfSome o (λ asked. IfSome before (λ left. length left ≤ most_input → refusal left ≡ None
    → IsComplete s source sink))
complete_not_done o before after old new w source sink s is usage at read write i =
    let P : ℕ → Type 0 = λ n. IfSome o (λ asked. IfSome before (λ left.
    length left ≤ most_input → refusal left ≡ None → IsComplete n source sink)) in
    subst P (sym is) (complete_any o before after old new w source sink usage at read write i)
