-- Journals that say the same of the calls in them say the same of all calls.
use Rattle.std.proofs.Common.{◌≡◌, ℕ, ◌≤◌, Bool, true, false, ◌&&◌, All, List, [], ◌∷◌, Option, Some, None, if◌then◌else◌, refl, ap, sym, ◌∙◌, ◌⊎◌, inl, inr, eqb-true, arith}
use Rattle.std.specs.Prelude.{◌==◌, reverse}
use Rattle.std.specs.Option.{option_or}
use Rattle.std.proofs.lemmas.Bool.{and_parts, ltb-true}
use Rattle.std.proofs.lemmas.List.Elements.{All-head, All-tail}
use Rattle.std.proofs.lemmas.List.Sums.{AllPass-from_list_all}
use Rattle.inode_events.specs.Checks.{check_after, last_check}
use Rattle.inode_events.specs.EndedInode.{EndedInodeValue}
use Rattle.inode_events.specs.NewestFirst.{newest_first}
use Rattle.inode_events.specs.State.{content}
use Rattle.inode_events.specs.declared.deed.Deed.{Deed}
use Rattle.inode_events.specs.declared.deed.Deed.TheVariants as deed
use Rattle.inode_events.specs.declared.told.Event.{Event}
use Rattle.inode_events.specs.declared.told.Told.{Told}
use Rattle.inode_events.specs.declared.told.Told.TheVariants as told
use Rattle.inode_events.specs.templates.declared.entry.Entry.{Entry}
use Rattle.order_outcomes.specs.alike.Alike.{unchecked}
use Rattle.order_outcomes.specs.Calls.{is_by, is_listed, is_read, listed_in, verdict_in, verdict_told}
use Rattle.order_told.specs.Told.{IsCallSame, are_checks_below, is_check_below, is_grant}
use Rattle.order_told.proofs.Telling.{All-reverse}

-- ---- checks

no_check : (file end : ℕ) (d : Deed) (p : List Event) → is_check_below end d ≡ true → end ≤ file
    → last_check file p ≡ unchecked → check_after file d (last_check file p) ≡ unchecked
no_check file end (deed.Check other func action rules) p h le rest = by (other == file) refl
  where
    by : (b : Bool) → (other == file) ≡ b
        → (if b then record { func = func; action = action } else last_check file p) ≡ unchecked
    by true is =
        let e = eqb-true other file is in
        let lt = ltb-true other end h in
        absurd (omega (arith, e, lt, le))
    by false is = rest
no_check file end _ p h le rest = rest

none_checked : (file end : ℕ) (p : List Event)
    → All (λ (e : Event). is_check_below end e.deed ≡ true) p → end ≤ file
    → last_check file p ≡ unchecked
none_checked file end [] h le = refl
none_checked file end (e ∷ p) h le =
    no_check file end e.deed p (All-head (λ (x : Event). is_check_below end x.deed ≡ true) e p h) le
    (none_checked file end p (All-tail (λ (x : Event). is_check_below end x.deed ≡ true) e p h) le)

-- no file from the end on has been checked
pub unchecked_beyond : (file end : ℕ) (j : List Event) → are_checks_below end j ≡ true → end ≤ file
    → last_check file (newest_first j) ≡ unchecked
unfolding newest_first
unchecked_beyond file end j h le =
    none_checked file end (reverse j)
    (All-reverse (λ (e : Event). is_check_below end e.deed ≡ true) j
    (AllPass-from_list_all (λ (e : Event). is_check_below end e.deed) j h)) le

-- ---- calls

or_none : {X : Type 0} (o : Option X) → option_or o None ≡ o
or_none None = refl
or_none (Some x) = refl

module _ (P : Event → Type 0) (task n : ℕ) where
  -- no event here is a grant of the call, or one is
  verdict_found : (es : List Event) → All P es → (verdict_in task n es ≡ None)
      ⊎ ((e : Event) × (P e × ((e.who.task ≡ task) × ((e.who.call ≡ n)
      × (is_grant e.told ≡ true)))))
  verdict_found [] h = inl refl
  verdict_found (e ∷ es) h =
      by (is_by task n e) refl e.told refl (verdict_found es (All-tail P e es h))
    where
      by : (b : Bool) → is_by task n e ≡ b → (t : Told) → e.told ≡ t
          → (verdict_in task n es ≡ None) ⊎ ((e : Event) × (P e × ((e.who.task ≡ task)
          × ((e.who.call ≡ n) × (is_grant e.told ≡ true)))))
          → (option_or (if b then verdict_told t else None) (verdict_in task n es) ≡ None)
          ⊎ ((e : Event) × (P e × ((e.who.task ≡ task) × ((e.who.call ≡ n)
          × (is_grant e.told ≡ true)))))
      by false is t eq rest = rest
      by true is (told.Grant g) eq rest =
          let parts = and_parts (e.who.task == task) (e.who.call == n) is in
          inr (
            e,
            (
              All-head P e es h,
              (
                eqb-true e.who.task task parts.0,
                (eqb-true e.who.call n parts.1, ap is_grant eq),
              ),
            ),
          )
      by true is _ eq rest = rest

  listed_found : (list : List Entry) (es : List Event) → All P es
      → (listed_in list task n es ≡ None)
      ⊎ ((e : Event) × (P e × ((e.who.task ≡ task) × ((e.who.call ≡ n)
      × (is_read e.deed ≡ true)))))
  listed_found list [] h = inl refl
  listed_found list (e ∷ es) h =
      by (is_by task n e) refl (is_read e.deed) refl (listed_found list es (All-tail P e es h))
    where
      by : (b : Bool) → is_by task n e ≡ b → (r : Bool) → is_read e.deed ≡ r
          → (listed_in list task n es ≡ None) ⊎ ((e : Event) × (P e × ((e.who.task ≡ task)
          × ((e.who.call ≡ n) × (is_read e.deed ≡ true)))))
          → ((if b && r then Some (is_listed list (content es) es) else listed_in list task n es)
          ≡ None) ⊎ ((e : Event) × (P e × ((e.who.task ≡ task) × ((e.who.call ≡ n)
          × (is_read e.deed ≡ true)))))
      by false is r eq rest = rest
      by true is false eq rest = rest
      by true is true eq rest =
          let parts = and_parts (e.who.task == task) (e.who.call == n) is in
          inr (
            e,
            (
              All-head P e es h,
              (
                eqb-true e.who.task task parts.0,
                (eqb-true e.who.call n parts.1, eq),
              ),
            ),
          )

module _ (list list2 : List Entry) (x y : EndedInodeValue)
    (calls : All (IsCallSame list list2 (x ∷ []) (y ∷ [])) x.journal)
    (calls2 : All (IsCallSame list list2 (x ∷ []) (y ∷ [])) y.journal) where
  -- an event with the call's verdict says that the verdicts are the same
  verdict_at : (task n : ℕ) (e : Event) → IsCallSame list list2 (x ∷ []) (y ∷ []) e
      → e.who.task ≡ task → e.who.call ≡ n → is_grant e.told ≡ true
      → verdict_in task n y.journal ≡ verdict_in task n x.journal
  verdict_at task n e same is is2 grant =
      sym (or_none (verdict_in task n y.journal))
      ∙ (λ k. option_or (verdict_in (sym is k) (sym is2 k) y.journal) None)
      ∙ same.verdict grant
      ∙ (λ k. option_or (verdict_in (is k) (is2 k) x.journal) None)
      ∙ or_none (verdict_in task n x.journal)

  pub told_same : (task n : ℕ) → verdict_in task n y.journal ≡ verdict_in task n x.journal
  told_same task n =
      by (verdict_found (IsCallSame list list2 (x ∷ []) (y ∷ [])) task n x.journal calls)
      (verdict_found (IsCallSame list list2 (x ∷ []) (y ∷ [])) task n y.journal calls2)
    where
      by : (verdict_in task n x.journal ≡ None) ⊎ ((e : Event) × (IsCallSame list list2 (x ∷ [])
          (y ∷ []) e × ((e.who.task ≡ task) × ((e.who.call ≡ n) × (is_grant e.told ≡ true)))))
          → (verdict_in task n y.journal ≡ None) ⊎ ((e : Event) × (IsCallSame list list2 (x ∷ [])
          (y ∷ []) e × ((e.who.task ≡ task) × ((e.who.call ≡ n) × (is_grant e.told ≡ true)))))
          → verdict_in task n y.journal ≡ verdict_in task n x.journal
      by (inr f) other = verdict_at task n f.0 f.1.0 f.1.1.0 f.1.1.1.0 f.1.1.1.1
      by (inl none) (inr f) = verdict_at task n f.0 f.1.0 f.1.1.0 f.1.1.1.0 f.1.1.1.1
      by (inl none) (inl none2) = none2 ∙ sym none

  listed_at : (task n : ℕ) (e : Event) → IsCallSame list list2 (x ∷ []) (y ∷ []) e
      → e.who.task ≡ task → e.who.call ≡ n → is_read e.deed ≡ true
      → listed_in list2 task n (newest_first y.journal)
      ≡ listed_in list task n (newest_first x.journal)
  listed_at task n e same is is2 read =
      sym (or_none (listed_in list2 task n (newest_first y.journal)))
      ∙ (λ k. option_or (listed_in list2 (sym is k) (sym is2 k) (newest_first y.journal)) None)
      ∙ same.listed read
      ∙ (λ k. option_or (listed_in list (is k) (is2 k) (newest_first x.journal)) None)
      ∙ or_none (listed_in list task n (newest_first x.journal))

  past_calls : (j : List Event) → All (IsCallSame list list2 (x ∷ []) (y ∷ [])) j
      → All (IsCallSame list list2 (x ∷ []) (y ∷ [])) (newest_first j)
  unfolding newest_first
  past_calls j h = All-reverse (IsCallSame list list2 (x ∷ []) (y ∷ [])) j h

  pub listed_same : (task n : ℕ)
      → listed_in list2 task n (newest_first y.journal)
      ≡ listed_in list task n (newest_first x.journal)
  listed_same task n =
      by (listed_found (IsCallSame list list2 (x ∷ []) (y ∷ [])) task n list
      (newest_first x.journal) (past_calls x.journal calls))
      (listed_found (IsCallSame list list2 (x ∷ []) (y ∷ [])) task n list2 (newest_first y.journal)
      (past_calls y.journal calls2))
    where
      by : (listed_in list task n (newest_first x.journal) ≡ None)
          ⊎ ((e : Event) × (IsCallSame list list2
          (x ∷ []) (y ∷ []) e × ((e.who.task ≡ task) × ((e.who.call ≡ n)
          × (is_read e.deed ≡ true)))))
          → (listed_in list2 task n (newest_first y.journal) ≡ None)
          ⊎ ((e : Event) × (IsCallSame list list2
          (x ∷ []) (y ∷ []) e × ((e.who.task ≡ task) × ((e.who.call ≡ n)
          × (is_read e.deed ≡ true)))))
          → listed_in list2 task n (newest_first y.journal)
          ≡ listed_in list task n (newest_first x.journal)
      by (inr f) other = listed_at task n f.0 f.1.0 f.1.1.0 f.1.1.1.0 f.1.1.1.1
      by (inl none) (inr f) = listed_at task n f.0 f.1.0 f.1.1.0 f.1.1.1.0 f.1.1.1.1
      by (inl none) (inl none2) = none2 ∙ sym none
