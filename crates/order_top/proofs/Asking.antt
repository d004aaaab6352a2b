-- Words that ask for nothing, or whose turns find no memory: nothing was read or written.
use Rattle.std.proofs.Common.{◌≡◌, ◌<◌, ◌≤◌, ◌+◌, ◌↔◌, ◌⊎◌, inl, inr, ℕ, List, [], Option, Some, None, Err, is_some, length, refl, ap, sym, subst, ◌∙◌, arith}
use Rattle.std.specs.Prelude.{IfSome, IsNone}
use Rattle.std.specs.Io.KnownBytes.{Consumes}
use Rattle.std.proofs.lemmas.Bool.{true≢false}
use Rattle.std.proofs.lemmas.Option.{none-some}
use Rattle.order_top.specs.Limits.{most_input}
use Rattle.order_top.specs.NotDone.{not_done_status}
use Rattle.order_top.specs.Served.{IsPastReading, OnInput, Performed}
use Rattle.order_top.specs.Words.{AskedValue, IsAsked}
use Rattle.order_top.specs.declared.not_done.NotDone.{NotDone}
use Rattle.order_top.specs.declared.not_done.NotDone.TheVariants as why
use Rattle.order_top.specs.Statuses as exit

-- the status is that of words that ask for nothing, or of memory that ran out
abbrev IsEarly : ℕ → Type 0
IsEarly status = (status ≡ exit.usage) ⊎ (status ≡ exit.out_of_memory)

early : (o : Option AskedValue) (w : NotDone) → IsAsked o (Err w) → IsEarly (not_done_status w)
early o why.Usage h = inl refl
early o (why.Refused line) h = absurd h
early o (why.TooMany line) h = absurd h
early o why.ReadFault h = absurd h
early o why.WriteFault h = absurd h
early o why.TooLong h = absurd h
early o why.OutOfMemory h = inr refl

-- such a status is none of these
not_past : (s : ℕ) → IsEarly s → IsPastReading s → ⊥
not_past s (inl e) (inl h) = omega (arith, e, h)
not_past s (inl e) (inr (inl h)) = omega (arith, e, h)
not_past s (inl e) (inr (inr (inl h))) = omega (arith, e, h)
not_past s (inl e) (inr (inr (inr h))) = omega (arith, e, h)
not_past s (inr e) (inl h) = omega (arith, e, h)
not_past s (inr e) (inr (inl h)) = omega (arith, e, h)
not_past s (inr e) (inr (inr (inl h))) = omega (arith, e, h)
not_past s (inr e) (inr (inr (inr h))) = omega (arith, e, h)

not_fault : (s fault : ℕ) → (fault ≡ exit.read_fault) ⊎ (fault ≡ exit.write_fault)
    → IsEarly s → s ≡ fault → ⊥
not_fault s fault (inl f) (inl e) h = omega (arith, f, e, h)
not_fault s fault (inl f) (inr e) h = omega (arith, f, e, h)
not_fault s fault (inr f) (inl e) h = omega (arith, f, e, h)
not_fault s fault (inr f) (inr e) h = omega (arith, f, e, h)

-- nothing is taken from a source
nothing : (left : Option (List ℕ)) → Consumes left left []
nothing None = tt
nothing (Some xs) = refl

module _ (o : Option AskedValue) (w : NotDone) (h : IsAsked o (Err w)) where
  pub no_reading : IsPastReading (not_done_status w) → ⊥
  no_reading past = not_past (not_done_status w) (early o w h) past

  pub no_read_fault : not_done_status w ≡ exit.read_fault → ⊥
  no_read_fault is =
      not_fault (not_done_status w) exit.read_fault (inl refl) (early o w h) is

  pub no_write_fault : not_done_status w ≡ exit.write_fault → ⊥
  no_write_fault is =
      not_fault (not_done_status w) exit.write_fault (inr refl) (early o w h) is

-- the status is that of usage exactly if the words ask for nothing
pub usage_is : (o : Option AskedValue) (w : NotDone) → IsAsked o (Err w)
    → (not_done_status w ≡ exit.usage) ↔ IsNone o
usage_is o why.Usage h = (λ e. ap (λ (x : Option AskedValue). is_some x) h, λ none. refl)
usage_is o (why.Refused line) h = absurd h
usage_is o (why.TooMany line) h = absurd h
usage_is o why.ReadFault h = absurd h
usage_is o why.WriteFault h = absurd h
usage_is o why.TooLong h = absurd h
usage_is o why.OutOfMemory h =
    (λ e. absurd (omega (arith, e)), λ none. absurd (true≢false (sym h ∙ none)))

-- if they ask for something, memory ran out before anything was read
pub nothing_read : (o : Option AskedValue) (w : NotDone) → IsAsked o (Err w)
    → (left old : Option (List ℕ)) → IfSome o (λ asked. OnInput left left (λ input.
    (length input ≤ most_input + 1)
    × ((not_done_status w ≡ exit.too_long) ↔ (most_input < length input))
    × Performed asked input old old (Err w)))
nothing_read None w h left old = tt
nothing_read (Some a) why.Usage h left old = absurd (none-some a (sym h))
nothing_read (Some a) (why.Refused line) h left old = absurd h
nothing_read (Some a) (why.TooMany line) h left old = absurd h
nothing_read (Some a) why.ReadFault h left old = absurd h
nothing_read (Some a) why.WriteFault h left old = absurd h
nothing_read (Some a) why.TooLong h left old = absurd h
nothing_read (Some a) why.OutOfMemory h left old = record {
  input = [];
  given = nothing left;
  holds = (
    omega arith,
    (λ e. absurd (omega (arith, e)), λ lt. absurd (omega (arith, lt))),
    tt,
  );
}

-- what holds of what the words ask for
pub some_holds : (o : Option AskedValue) (a : AskedValue) (P : AskedValue → Type 0) → o ≡ Some a
    → P a → IfSome o P
some_holds o a P is holds = subst (λ (x : Option AskedValue). IfSome x P) (sym is) holds
