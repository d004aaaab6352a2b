-- Measurement lists with the same entries in any order: they stay so when the same entry is added
-- to both.
use Rattle.std.proofs.Common.{◌≡◌, ℕ, Bool, true, false, cond, List, [], ◌∷◌, ◌++◌, get_or, length, nat_lt, Option, Some, None, slice_get, unwrap_or, refl, ap, sym, ◌∙◌}
use Rattle.std.specs.Prelude.{option_and_then}
use Rattle.std.specs.List.{position_or_len}
use Rattle.std.specs.Option.{option_or}
use Rattle.std.proofs.lemmas.List.Folds.{find-append, find_at}
use Rattle.std.proofs.lemmas.Bool.{ltb-false}
use Rattle.std.proofs.lemmas.Option.{slice_get_past}
use Rattle.std.proofs.lemmas.List.Sums.{fold-append}
use Rattle.journal_laws.proofs.Covering.{first_shows}
use Rattle.report_text.specs.model.events.Asked.{list_after}
use Rattle.report_text.specs.model.events.Says.{place_of}
use Rattle.report_text.specs.model.events.declared.told.Told.{Told}
use Rattle.report_text.specs.model.events.templates.Same.{add, add_by, place_of_same, placed, placed_by, same}
use Rattle.report_text.specs.model.events.templates.declared.entry.Entry.{Entry}
use Rattle.order_outcomes.specs.Calls.{shows, shows_at}
use Rattle.order_outcomes.specs.Outcome.{lines_of, with_line}
use Rattle.order_outcomes.specs.declared.lines.Kind.{Kind}
use Rattle.order_outcomes.specs.alike.Alike.{AreListsAlike, found_in}

-- ---- what is found

-- the entry that is found is the one at its place
found_at : (list : List Entry) (e : Entry)
    → found_in list e ≡ option_and_then (slice_get list) (place_of_same list e)
found_at list e =
    find_at (λ (x : Entry). same x e) list
    ∙ at (nat_lt (position_or_len (λ (x : Entry). same x e) list) (length list)) refl
  where
    at : (b : Bool) → nat_lt (position_or_len (λ (x : Entry). same x e) list) (length list) ≡ b
        → slice_get list (position_or_len (λ (x : Entry). same x e) list)
        ≡ option_and_then (slice_get list)
        (cond b (Some (position_or_len (λ (x : Entry). same x e) list)) None)
    at true h = refl
    at false h =
        slice_get_past list (position_or_len (λ (x : Entry). same x e) list)
        (ltb-false (position_or_len (λ (x : Entry). same x e) list) (length list) h)

-- the last entry is at the end
last_at : (list : List Entry) (e : Entry) → slice_get (list ++ e ∷ []) (length list) ≡ Some e
last_at [] e = refl
last_at (x ∷ xs) e = last_at xs e

-- at the place of an added entry is the one that was found, or else that entry
entry_at : (list : List Entry) (e : Entry)
    → slice_get (add list e) (place_of (placed list e)) ≡ Some (unwrap_or (found_in list e) e)
entry_at list e = at (place_of_same list e) refl
  where
    at : (o : Option ℕ) → place_of_same list e ≡ o
        → slice_get (add_by o list e) (place_of (placed_by o (length list)))
        ≡ Some (unwrap_or (found_in list e) e)
    at None h =
        let none : found_in list e ≡ None
        = found_at list e ∙ ap (option_and_then (slice_get list)) h in
        last_at list e ∙ ap (λ (x : Option Entry). Some (unwrap_or x e)) (sym none)
    at (Some place) h =
        let there = (first_shows list e place h).0 in
        let found : found_in list e ≡ Some (get_or list place e)
        = found_at list e ∙ ap (option_and_then (slice_get list)) h ∙ there in
        there ∙ ap (λ (x : Option Entry). Some (unwrap_or x e)) (sym found)

-- the list after an entry is added, by the one that was found
abbrev added_by : Option Entry → List Entry → Entry → List Entry
added_by None list e = list ++ e ∷ []
added_by (Some x) list e = list

-- it is that list
added_found : (list : List Entry) (e : Entry) → add list e ≡ added_by (found_in list e) list e
added_found list e = at (place_of_same list e) refl
  where
    at : (o : Option ℕ) → place_of_same list e ≡ o
        → add_by o list e ≡ added_by (found_in list e) list e
    at None h =
        ap (λ (x : Option Entry). added_by x list e)
        (sym (found_at list e ∙ ap (option_and_then (slice_get list)) h))
    at (Some place) h =
        ap (λ (x : Option Entry). added_by x list e)
        (sym (found_at list e ∙ ap (option_and_then (slice_get list)) h
        ∙ (first_shows list e place h).0))

-- ---- lists that are alike

module _ (list list2 : List Entry) (alike : AreListsAlike list list2) where
  -- the same is found after an entry is added to both
  found_added : (e x : Entry) → found_in (add list2 e) x ≡ found_in (add list e) x
  found_added e x =
      ap (λ (l : List Entry). found_in l x) (added_found list2 e)
      ∙ ap (λ (o : Option Entry). found_in (added_by o list2 e) x) (alike.found e)
      ∙ at (found_in list e)
      ∙ sym (ap (λ (l : List Entry). found_in l x) (added_found list e))
    where
      at : (o : Option Entry)
          → found_in (added_by o list2 e) x ≡ found_in (added_by o list e) x
      at None =
          find-append (λ (y : Entry). same y x) list2 (e ∷ [])
          ∙ ap (λ (o : Option Entry). option_or o (found_in (e ∷ []) x)) (alike.found x)
          ∙ sym (find-append (λ (y : Entry). same y x) list (e ∷ []))
      at (Some y) = alike.found x

  -- an outcome tells the same lines
  lines_added : (kind : Kind) (e : Entry)
      → lines_of kind (add list2 e) ≡ lines_of kind (add list e)
  lines_added kind e =
      ap (lines_of kind) (added_found list2 e)
      ∙ ap (λ (o : Option Entry). lines_of kind (added_by o list2 e)) (alike.found e)
      ∙ at (found_in list e)
      ∙ sym (ap (lines_of kind) (added_found list e))
    where
      at : (o : Option Entry)
          → lines_of kind (added_by o list2 e) ≡ lines_of kind (added_by o list e)
      at None =
          fold-append (with_line kind) [] list2 (e ∷ [])
          ∙ ap (λ (lines : List (List ℕ)). with_line kind lines e) (alike.lines kind)
          ∙ sym (fold-append (with_line kind) [] list (e ∷ []))
      at (Some y) = alike.lines kind

  -- the same entry added to both
  pub lists_added : (e : Entry) → AreListsAlike (add list e) (add list2 e)
  lists_added e = record {
    lines = λ kind. lines_added kind e;
    found = λ x. found_added e x;
  }

  -- whatever a step adds
  pub lists_after : (o : Option Entry) (t t2 : Told)
      → AreListsAlike (list_after list o (Some t)) (list_after list2 o (Some t2))
  lists_after None t t2 = alike
  lists_after (Some e) t t2 = lists_added e

  -- the entries at the places that both lists give show the same
  pub added_shown : (e : Entry) (bytes : List ℕ)
      → shows_at (add list2 e) bytes (Some (place_of (placed list2 e)))
      ≡ shows_at (add list e) bytes (Some (place_of (placed list e)))
  added_shown e bytes =
      ap (shows bytes) (entry_at list2 e
      ∙ ap (λ (o : Option Entry). Some (unwrap_or o e)) (alike.found e)
      ∙ sym (entry_at list e))

-- a list is alike to itself
pub lists_itself : (list : List Entry) → AreListsAlike list list
lists_itself list = record { lines = λ kind. refl; found = λ e. refl }

-- and alike to what a list is that is alike to it
pub lists_along : (a b c : List Entry) → AreListsAlike a b → AreListsAlike b c
    → AreListsAlike a c
lists_along a b c x y = record {
  lines = λ kind. y.lines kind ∙ x.lines kind;
  found = λ e. y.found e ∙ x.found e;
}
