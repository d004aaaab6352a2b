-- The early ends of a performance: no input, no answer, or a sink that failed.
use Rattle.std.proofs.Common.{◌≡◌, ◌<◌, ◌≤◌, ◌+◌, ◌↔◌, ◌⊎◌, inl, inr, ℕ, List, Option, length, ap, refl, sym, subst, ◌∙◌, arith}
use Rattle.std.specs.Prelude.{Result, Ok, Err, IsErrAnd}
use Rattle.order_top.specs.Limits.{most_input}
use Rattle.order_top.specs.NotDone.{not_done_status, status_of}
use Rattle.order_top.specs.Served.{Answers, IsPastReading, OnInput, Performed}
use Rattle.order_top.specs.Words.{AskedValue}
use Rattle.order_top.specs.declared.not_done.NotDone.{NotDone}
use Rattle.order_top.specs.declared.not_done.NotDone.TheVariants as why
use Rattle.order_top.specs.Statuses as exit

-- the status of a reason that is passed on
pub status_is : (r : Result (Unit {0}) NotDone) (w : NotDone) → IsErrAnd r (λ y. y ≡ w)
    → status_of r ≡ not_done_status w
status_is (Ok x) w given = absurd given
status_is (Err y) w given = ap not_done_status given

-- what was performed, if a reason is passed on
passed_on : (asked : AskedValue) (input : List ℕ) (old new : Option (List ℕ))
    (r : Result (Unit {0}) NotDone) (w : NotDone) → IsErrAnd r (λ y. y ≡ w)
    → Performed asked input old new (Err w) → Performed asked input old new r
passed_on asked input old new (Ok x) w given p = absurd given
passed_on asked input old new (Err y) w given p =
    subst (λ v. Performed asked input old new (Err v)) (sym given) p

-- what the result says about its input
abbrev IsDoneWith : Option (List ℕ) → Option (List ℕ) → Option (List ℕ) → Option (List ℕ)
    → AskedValue → Result (Unit {0}) NotDone → Type 0
IsDoneWith before after old new asked r = OnInput before after (λ input.
    (length input ≤ most_input + 1)
    × ((status_of r ≡ exit.too_long) ↔ (most_input < length input))
    × Performed asked input old new r)

-- ---- no input

-- a status with which reading ends
abbrev IsUnread : ℕ → Type 0
IsUnread s = (s ≡ exit.read_fault) ⊎ (s ≡ exit.too_long) ⊎ (s ≡ exit.out_of_memory)

-- the status is none of these
pub record IsUnreadOnly (s : ℕ) : Type 0 where
  pub usage : s ≡ exit.usage → ⊥
  pub past : IsPastReading s → ⊥
  pub write_fault : s ≡ exit.write_fault → ⊥

not_past : (s : ℕ) → IsUnread s → IsPastReading s → ⊥
not_past s u (inl h) = omega (arith, u, h)
not_past s u (inr (inl h)) = omega (arith, u, h)
not_past s u (inr (inr (inl h))) = omega (arith, u, h)
not_past s u (inr (inr (inr h))) = omega (arith, u, h)

unread_only : (s : ℕ) → IsUnread s → IsUnreadOnly s
unread_only s u = record {
  usage = λ h. omega (arith, u, h);
  past = not_past s u;
  write_fault = λ h. omega (arith, u, h);
}

nothing_performed : (asked : AskedValue) (input : List ℕ) (old new : Option (List ℕ))
    (w : NotDone) → IsUnread (not_done_status w) → Performed asked input old new (Err w)
nothing_performed asked input old new why.Usage u = tt
nothing_performed asked input old new (why.Refused line) u = absurd (omega (arith, u))
nothing_performed asked input old new (why.TooMany line) u = absurd (omega (arith, u))
nothing_performed asked input old new why.ReadFault u = tt
nothing_performed asked input old new why.WriteFault u = absurd (omega (arith, u))
nothing_performed asked input old new why.TooLong u = tt
nothing_performed asked input old new why.OutOfMemory u = tt

module _ (r : Result (Unit {0}) NotDone) (w : NotDone) (given : IsErrAnd r (λ y. y ≡ w)) where
  pub unread : IsUnread (not_done_status w) → IsUnreadOnly (status_of r)
  unread u = subst IsUnreadOnly (sym (status_is r w given)) (unread_only (not_done_status w) u)

  pub input_unread : (asked : AskedValue) (before after old new : Option (List ℕ))
      → IsUnread (not_done_status w) → OnInput before after (λ input.
      (length input ≤ most_input + 1)
      × ((not_done_status w ≡ exit.too_long) ↔ (most_input < length input)) × Unit {0})
      → IsDoneWith before after old new asked r
  input_unread asked before after old new u i = record {
    input = i.input;
    given = i.given;
    holds = (
      i.holds.0,
      (
        λ h. i.holds.1.0 (sym (status_is r w given) ∙ h),
        λ lt. status_is r w given ∙ i.holds.1.1 lt,
      ),
      passed_on asked i.input old new r w given
          (nothing_performed asked i.input old new w u),
    );
  }

-- ---- no answer

-- a status with which an answer isn't made
abbrev IsUnanswered : ℕ → Type 0
IsUnanswered s = (s ≡ exit.refused) ⊎ (s ≡ exit.too_many) ⊎ (s ≡ exit.out_of_memory)

-- the status is none of these
pub record IsUnansweredOnly (s : ℕ) : Type 0 where
  pub usage : s ≡ exit.usage → ⊥
  pub read_fault : s ≡ exit.read_fault → ⊥
  pub too_long : s ≡ exit.too_long → ⊥
  pub write_fault : s ≡ exit.write_fault → ⊥

unanswered_only : (s : ℕ) → IsUnanswered s → IsUnansweredOnly s
unanswered_only s u = record {
  usage = λ h. omega (arith, u, h);
  read_fault = λ h. omega (arith, u, h);
  too_long = λ h. omega (arith, u, h);
  write_fault = λ h. omega (arith, u, h);
}

module _ (asked : AskedValue) (bytes : List ℕ) where
  unmade : (w : NotDone) → Answers asked bytes (Err w) → IsUnanswered (not_done_status w)
  unmade why.Usage h = absurd h
  unmade (why.Refused line) h = inl refl
  unmade (why.TooMany line) h = inr (inl refl)
  unmade why.ReadFault h = absurd h
  unmade why.WriteFault h = absurd h
  unmade why.TooLong h = absurd h
  unmade why.OutOfMemory h = inr (inr refl)

  none_performed : (old new : Option (List ℕ)) (w : NotDone) → Answers asked bytes (Err w)
      → Performed asked bytes old new (Err w)
  none_performed old new why.Usage h = absurd h
  none_performed old new (why.Refused line) h = h
  none_performed old new (why.TooMany line) h = h
  none_performed old new why.ReadFault h = absurd h
  none_performed old new why.WriteFault h = absurd h
  none_performed old new why.TooLong h = absurd h
  none_performed old new why.OutOfMemory h = tt

-- the input is read whole
abbrev IsRead : List ℕ → Option (List ℕ) → Option (List ℕ) → Type 0
IsRead bytes before after = OnInput before after (λ input.
    (length input ≤ most_input + 1) × Unit {0}
    × ((bytes ≡ input) × (length input ≤ most_input)))

module _ (r : Result (Unit {0}) NotDone) (w : NotDone) (given : IsErrAnd r (λ y. y ≡ w))
    (asked : AskedValue) (bytes : List ℕ) (h : Answers asked bytes (Err w)) where
  pub unanswered : IsUnansweredOnly (status_of r)
  unanswered =
      subst IsUnansweredOnly (sym (status_is r w given))
      (unanswered_only (not_done_status w) (unmade asked bytes w h))

  pub input_unanswered : (before after old new : Option (List ℕ)) → IsRead bytes before after
      → IsDoneWith before after old new asked r
  input_unanswered before after old new i = record {
    input = i.input;
    given = i.given;
    holds = (
      i.holds.0,
      (λ long. absurd (unanswered.too_long long), λ lt. absurd (omega (arith, lt, i.holds.2.1))),
      passed_on asked i.input old new r w given
          (subst (λ b. Performed asked b old new (Err w)) i.holds.2.0
          (none_performed asked bytes old new w h)),
    );
  }
