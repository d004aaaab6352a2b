-- The columns of a journal are those of its drawn places.
use Rattle.std.proofs.Common.{◌≡◌, ℕ, suc, ◌+◌, List, [], ◌∷◌, ◌++◌, length, take, reverse, Option, Some, None, refl, ap, sym, ◌∙◌, subst, append_assoc, add-one}
use Rattle.std.specs.Prelude.{All, slice_get}
use Rattle.std.proofs.lemmas.List.{length-reverse, reverse-append, reverse-reverse}
use Rattle.std.proofs.lemmas.List.Elements.{All-append, All-cons, All-nil, All-take}
use Rattle.report_read.specs.words.declared.event.Event.{Event}
use Rattle.view_journal.specs.declared.window.Window.{Window}
use Rattle.view_journal.specs.Columns.{column_at, columns_from, hashing_after}
use Rattle.view_journal.specs.Files.{up_to}
use Rattle.view_journal.specs.Frame.{column_of}
use Rattle.view_journal.specs.Promises.{ColumnsAreTheJournals, IsColumnOf}
use Rattle.view_journal.specs.Walk.{state_after, states_from, states_of}

-- ---- a journal up to an event

event_after : (xs ys : List Event) (e : Event) → slice_get (xs ++ e ∷ ys) (length xs) ≡ Some e
event_after [] ys e = refl
event_after (x ∷ xs) ys e = event_after xs ys e

taken_after : (xs ys : List Event) (e : Event)
    → take (suc (length xs)) (xs ++ e ∷ ys) ≡ xs ++ e ∷ []
taken_after [] ys e = refl
taken_after (x ∷ xs) ys e = ap (λ (zs : List Event). x ∷ zs) (taken_after xs ys e)

event_here : (before es : List Event) (e : Event)
    → slice_get (reverse before ++ e ∷ es) (length before) ≡ Some e
event_here before es e =
    ap (λ (n : ℕ). slice_get (reverse before ++ e ∷ es) n) (sym (length-reverse before))
    ∙ event_after (reverse before) es e

up_to_here : (before es : List Event) (e : Event)
    → up_to (length before) (reverse before ++ e ∷ es) ≡ e ∷ before
up_to_here before es e =
    ap (λ (n : ℕ). reverse (take n (reverse before ++ e ∷ es)))
    (add-one (length before) ∙ ap suc (sym (length-reverse before)))
    ∙ (ap (λ (xs : List Event). reverse xs) (taken_after (reverse before) es e)
    ∙ (reverse-append (reverse before) (e ∷ [])
    ∙ ap (λ (xs : List Event). e ∷ xs) (reverse-reverse before)))

-- an event comes to those before
moved : (before es : List Event) (e : Event)
    → reverse before ++ e ∷ es ≡ reverse (e ∷ before) ++ es
moved before es e =
    sym (ap (λ (xs : List Event). xs ++ es) (reverse-append (e ∷ []) before)
    ∙ append_assoc (reverse before) (e ∷ []) es)

-- ---- the columns

stands_at : (ws : List Window) (journal before es : List Event) (e : Event) (hashing o : Option ℕ)
    → column_of ws (length before) ≡ o → journal ≡ reverse before ++ e ∷ es
    → All (IsColumnOf ws journal)
    (column_at o (length before) e (state_after (e ∷ before)) hashing)
stands_at ws journal before es e hashing None at is = All-nil (IsColumnOf ws journal)
stands_at ws journal before es e hashing (Some x) at is =
    All-cons (IsColumnOf ws journal)
    (record {
      place = length before;
      x = x;
      event = e;
      state = state_after (e ∷ before);
      hashing = hashing;
    }) []
    (record {
      x = at;
      event = ap (λ (xs : List Event). slice_get xs (length before)) is
          ∙ event_here before es e;
      state = sym (ap (λ (xs : List Event). state_after xs)
          (ap (λ (xs : List Event). up_to (length before) xs) is ∙ up_to_here before es e));
    }) (All-nil (IsColumnOf ws journal))

stand : (ws : List Window) (hashing : Option ℕ) (journal before es : List Event)
    → journal ≡ reverse before ++ es
    → All (IsColumnOf ws journal)
    (columns_from ws (length before) hashing es (states_from before es))
stand ws hashing journal before [] is = All-nil (IsColumnOf ws journal)
stand ws hashing journal before (e ∷ es) is =
    let next : Option ℕ = hashing_after e.deed e.outcome hashing in
    All-append (IsColumnOf ws journal)
    (column_at (column_of ws (length before)) (length before) e (state_after (e ∷ before)) next)
    (columns_from ws (length before + 1) next es (states_from (e ∷ before) es))
    (stands_at ws journal before es e next (column_of ws (length before)) refl is)
    (subst (λ (n : ℕ).
    All (IsColumnOf ws journal) (columns_from ws n next es (states_from (e ∷ before) es)))
    (sym (add-one (length before)))
    (stand ws next journal (e ∷ before) es (is ∙ moved before es e)))

pub columns_are_the_journals : ColumnsAreTheJournals
columns_are_the_journals ws journal =
    All-take (IsColumnOf ws journal) 1000 (columns_from ws 0 None journal (states_of journal))
    (stand ws None journal [] journal refl)
