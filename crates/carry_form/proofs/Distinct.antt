-- A list in which each entry is new has no two that are the same.
use Rattle.std.proofs.Common.{◌≡◌, ℕ, ◌<◌, true, false, List, [], ◌∷◌, ◌++◌, length, Option, None, Some, refl, sym, ap, subst, append_assoc, append-nil}
use Rattle.std.proofs.lemmas.Bool.{and_from, and_parts}
use Rattle.std.proofs.lemmas.Option.{none-some}
use Rattle.std.specs.Option.{option_map_or}
use Rattle.std.specs.Prelude.{is_none, slice_get}
use mathlib.Core.List.{IsPrefix}
use Rattle.grow_list.proofs.Own.{slice_get-push}
use Rattle.grow_list.proofs.Prefixes.{prefix_append, prefix_get}
use Rattle.ima_templates.specs.Same.{IsDistinct, place_of_same, same}
use Rattle.ima_templates.specs.declared.entry.Entry.{Entry}
use Rattle.measure_book.proofs.Finding.{IsDistinct-push, position-none}
use Rattle.carry_form.specs.Reading.{all_new}

-- an option that is none
is_none-true : {A : Type 0} (o : Option A) → is_none o ≡ true → o ≡ None
is_none-true None is = refl
is_none-true (Some x) is = absurd (cc)

-- no entry of an empty list is the same as another
pub IsDistinct-nil : IsDistinct []
IsDistinct-nil a b x y before at_a at_b = absurd (none-some x at_a)

-- new entries keep a list distinct
IsDistinct-new : (before es : List Entry) → IsDistinct before → all_new before es ≡ true
    → IsDistinct (before ++ es)
IsDistinct-new before [] distinct new = subst IsDistinct (sym (append-nil before)) distinct
IsDistinct-new before (e ∷ es) distinct new =
    let both = and_parts (is_none (place_of_same before e)) (all_new (before ++ e ∷ []) es) new in
    subst IsDistinct (append_assoc before (e ∷ []) es)
    (IsDistinct-new (before ++ e ∷ []) es
    (IsDistinct-push before e distinct (is_none-true (place_of_same before e) both.0)) both.1)

-- a list whose entries are all new is distinct
pub distinct-new : (list : List Entry) → all_new [] list ≡ true → IsDistinct list
distinct-new list new = IsDistinct-new [] list IsDistinct-nil new

-- in a distinct list no earlier entry is the same
place_of_same-before : (before es : List Entry) (e : Entry) → IsDistinct (before ++ e ∷ es)
    → place_of_same before e ≡ None
place_of_same-before before es e distinct =
    position-none (λ earlier. same earlier e) before differs where
      here : slice_get (before ++ e ∷ es) (length before) ≡ Some e
      here = prefix_get (before ++ e ∷ []) (before ++ e ∷ es) (length before) e
          (subst (λ (l : List Entry). IsPrefix (before ++ e ∷ []) l)
          (append_assoc before (e ∷ []) es) (prefix_append (before ++ e ∷ []) es))
          (slice_get-push before e)

      at : (k : ℕ) → k < length before → (o : Option Entry) → slice_get before k ≡ o
          → option_map_or (λ earlier. same earlier e) o false ≡ false
      at k below None none = refl
      at k below (Some x) some =
          distinct k (length before) x e below
          (prefix_get before (before ++ e ∷ es) k x (prefix_append before (e ∷ es)) some) here

      differs : (k : ℕ) → k < length before
          → option_map_or (λ earlier. same earlier e) (slice_get before k) false ≡ false
      differs k below = at k below (slice_get before k) refl

-- in a distinct list each entry is new
new-distinct : (before es : List Entry) → IsDistinct (before ++ es) → all_new before es ≡ true
new-distinct before [] distinct = refl
new-distinct before (e ∷ es) distinct =
    and_from (is_none (place_of_same before e)) (all_new (before ++ e ∷ []) es)
    (ap (λ (o : Option ℕ). is_none o) (place_of_same-before before es e distinct))
    (new-distinct (before ++ e ∷ []) es
    (subst IsDistinct (sym (append_assoc before (e ∷ []) es)) distinct))

-- the entries of a distinct list are all new
pub all_new-distinct : (list : List Entry) → IsDistinct list → all_new [] list ≡ true
all_new-distinct list distinct = new-distinct [] list distinct
