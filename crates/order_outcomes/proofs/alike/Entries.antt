-- Lists with the same entries, in any order, are alike if neither has two that are the same.
use Rattle.std.proofs.Common.{◌≡◌, ℕ, zero, suc, ◌<◌, Bool, true, false, cond, List, [], ◌∷◌, Option, Some, None, slice_get, refl, ap, sym, subst, ◌∙◌, arith}
use Rattle.std.specs.Prelude.{fold}
use Rattle.std.specs.Cmp.Lexicographic.{slice_cmp}
use Rattle.std.specs.List.{find}
use Rattle.std.specs.Ordering.{is_eq, nat_cmp, ordering_reverse}
use Rattle.std.specs.declared.cmp.Ordering.{Ordering}
use Rattle.std.specs.declared.cmp.Ordering.TheVariants.{Less, Equal, Greater}
use Rattle.std.proofs.lemmas.Bool.{true≢false}
use Rattle.std.proofs.lemmas.Cmp.{nat_list_cmp_total, tied_itself}
use Rattle.std.proofs.lemmas.Map.Text.{is_eq-slice_cmp}
use Rattle.std.proofs.lemmas.Option.{none-some, same_Some}
use lib.Pointwise.{bytes_decides}
use Rattle.ima_templates.proofs.SameLemmas.{same-third}
use Rattle.report_text.specs.model.events.templates.Same.{IsDistinct, same}
use Rattle.report_text.specs.model.events.templates.declared.entry.Entry.{Entry}
use Rattle.order_outcomes.specs.Outcome.{entry_line, is_of, lines_of, with_line}
use Rattle.order_outcomes.specs.Sets.{with_by, with_text}
use Rattle.order_outcomes.specs.declared.lines.Kind.{Kind}
use Rattle.order_outcomes.specs.alike.Alike.{AreIn, AreListsAlike, IsIn, found_in}

-- ---- texts go into a set in any order

-- the order of texts
abbrev R : List ℕ → List ℕ → Ordering
R = slice_cmp nat_cmp

-- how the other text compares
back : (t u : List ℕ) (o : Ordering) → R t u ≡ o → R u t ≡ ordering_reverse o
back t u o h = nat_list_cmp_total.antisymm u t ∙ ap ordering_reverse h

-- texts that compare equal are equal
equal_texts : (t u : List ℕ) → R t u ≡ Equal → t ≡ u
equal_texts t u h =
    (bytes_decides t u).0 (sym (is_eq-slice_cmp t u) ∙ ap is_eq h)

-- a text goes into a set by how it compares with the first one
put : (t x : List ℕ) (xs : List (List ℕ)) (o : Ordering) → R t x ≡ o
    → with_text t (x ∷ xs) ≡ with_by o t x xs (with_text t xs)
put t x xs o h = ap (λ (y : Ordering). with_by y t x xs (with_text t xs)) h

-- two texts that go to the front
both_first : (t u : List ℕ) (xs : List (List ℕ)) → with_text t xs ≡ t ∷ xs
    → with_text u xs ≡ u ∷ xs → with_text t (u ∷ xs) ≡ with_text u (t ∷ xs)
both_first t u xs ht hu = at (R t u) refl
  where
    at : (o : Ordering) → R t u ≡ o → with_text t (u ∷ xs) ≡ with_text u (t ∷ xs)
    at Less h = put t u xs Less h ∙ sym (put u t xs Greater (back t u Less h)
        ∙ ap (λ (l : List (List ℕ)). t ∷ l) hu)
    at Equal h = put t u xs Equal h ∙ ap (λ (x : List ℕ). x ∷ xs) (sym (equal_texts t u h))
        ∙ sym (put u t xs Equal (back t u Equal h))
    at Greater h = put t u xs Greater h ∙ ap (λ (l : List (List ℕ)). u ∷ l) ht
        ∙ sym (put u t xs Less (back t u Greater h))

-- the first text of a set is greater than one text and not than the other
apart : (t u x : List ℕ) (xs : List (List ℕ)) (o : Ordering) → R t x ≡ Less → R u x ≡ o
    → (R u t ≡ Greater)
    → with_text t (with_by o u x xs (with_text u xs)) ≡ t ∷ with_by o u x xs (with_text u xs)
    → with_text t (with_text u (x ∷ xs)) ≡ with_text u (with_text t (x ∷ xs))
apart t u x xs o ht hu after first =
    let one = put u x xs o hu in
    let two = put t x xs Less ht in
    ap (with_text t) one ∙ first ∙ ap (λ (l : List (List ℕ)). t ∷ l) (sym one)
    ∙ sym (put u t (x ∷ xs) Greater after) ∙ ap (with_text u) (sym two)

-- the order in which two texts go into a set is of no account
either : (t u : List ℕ) (xs : List (List ℕ))
    → with_text t (with_text u xs) ≡ with_text u (with_text t xs)
either t u [] = both_first t u [] refl refl
either t u (x ∷ xs) = at (R t x) refl (R u x) refl (either t u xs)
  where
    at : (a : Ordering) → R t x ≡ a → (b : Ordering) → R u x ≡ b
        → with_text t (with_text u xs) ≡ with_text u (with_text t xs)
        → with_text t (with_text u (x ∷ xs)) ≡ with_text u (with_text t (x ∷ xs))
    at Less ht Less hu rest =
        ap (with_text t) (put u x xs Less hu)
        ∙ both_first t u (x ∷ xs) (put t x xs Less ht) (put u x xs Less hu)
        ∙ ap (with_text u) (sym (put t x xs Less ht))
    at Less ht Equal hu rest =
        apart t u x xs Equal ht hu
        (nat_list_cmp_total.congr u x t hu ∙ back t x Less ht) (put t x xs Less ht)
    at Less ht Greater hu rest =
        apart t u x xs Greater ht hu
        (back t u Less (nat_list_cmp_total.trans t x u ht (back u x Greater hu)))
        (put t x (with_text u xs) Less ht)
    at Equal ht Less hu rest =
        sym (apart u t x xs Equal hu ht
        (nat_list_cmp_total.congr t x u ht ∙ back u x Less hu) (put u x xs Less hu))
    at Equal ht Equal hu rest =
        ap (with_text t) (put u x xs Equal hu) ∙ put t x xs Equal ht
        ∙ sym (ap (with_text u) (put t x xs Equal ht) ∙ put u x xs Equal hu)
    at Equal ht Greater hu rest =
        ap (with_text t) (put u x xs Greater hu) ∙ put t x (with_text u xs) Equal ht
        ∙ sym (ap (with_text u) (put t x xs Equal ht) ∙ put u x xs Greater hu)
    at Greater ht Less hu rest =
        sym (apart u t x xs Greater hu ht
        (back u t Less (nat_list_cmp_total.trans u x t hu (back t x Greater ht)))
        (put u x (with_text t xs) Less hu))
    at Greater ht Equal hu rest =
        ap (with_text t) (put u x xs Equal hu) ∙ put t x xs Greater ht
        ∙ sym (ap (with_text u) (put t x xs Greater ht) ∙ put u x (with_text t xs) Equal hu)
    at Greater ht Greater hu rest =
        ap (with_text t) (put u x xs Greater hu) ∙ put t x (with_text u xs) Greater ht
        ∙ ap (λ (l : List (List ℕ)). x ∷ l) rest
        ∙ sym (ap (with_text u) (put t x xs Greater ht) ∙ put u x (with_text t xs) Greater hu)

-- a text goes into a set once
once : (t : List ℕ) (xs : List (List ℕ)) → with_text t (with_text t xs) ≡ with_text t xs
once t [] = put t t [] Equal (tied_itself nat_list_cmp_total t)
once t (x ∷ xs) = at (R t x) refl (once t xs)
  where
    at : (o : Ordering) → R t x ≡ o → with_text t (with_text t xs) ≡ with_text t xs
        → with_text t (with_text t (x ∷ xs)) ≡ with_text t (x ∷ xs)
    at Less h rest =
        ap (with_text t) (put t x xs Less h)
        ∙ put t t (x ∷ xs) Equal (tied_itself nat_list_cmp_total t) ∙ sym (put t x xs Less h)
    at Equal h rest = ap (with_text t) (put t x xs Equal h)
    at Greater h rest =
        ap (with_text t) (put t x xs Greater h) ∙ put t x (with_text t xs) Greater h
        ∙ ap (λ (l : List (List ℕ)). x ∷ l) rest ∙ sym (put t x xs Greater h)

-- ---- the lines of a list

module _ (kind : Kind) where
  -- the lines with those of more entries
  abbrev lines_with : List (List ℕ) → List Entry → List (List ℕ)
  lines_with lines es = fold (with_line kind) lines es

  -- the line of an entry goes into a set, or nothing does
  line_either : (lines : List (List ℕ)) (e f : Entry)
      → with_line kind (with_line kind lines e) f ≡ with_line kind (with_line kind lines f) e
  line_either lines e f = at (is_of kind e) (is_of kind f)
    where
      at : (a b : Bool)
          → cond b (with_text (entry_line f) (cond a (with_text (entry_line e) lines) lines))
          (cond a (with_text (entry_line e) lines) lines)
          ≡ cond a (with_text (entry_line e) (cond b (with_text (entry_line f) lines) lines))
          (cond b (with_text (entry_line f) lines) lines)
      at true true = either (entry_line f) (entry_line e) lines
      at true false = refl
      at false true = refl
      at false false = refl

  -- once
  line_once : (lines : List (List ℕ)) (e : Entry)
      → with_line kind (with_line kind lines e) e ≡ with_line kind lines e
  line_once lines e = at (is_of kind e)
    where
      at : (a : Bool)
          → cond a (with_text (entry_line e) (cond a (with_text (entry_line e) lines) lines))
          (cond a (with_text (entry_line e) lines) lines)
          ≡ cond a (with_text (entry_line e) lines) lines
      at true = once (entry_line e) lines
      at false = refl

  -- a line that goes in first can go in last
  line_last : (lines : List (List ℕ)) (e : Entry) (es : List Entry)
      → lines_with (with_line kind lines e) es ≡ with_line kind (lines_with lines es) e
  line_last lines e [] = refl
  line_last lines e (x ∷ xs) =
      ap (λ (l : List (List ℕ)). lines_with l xs) (line_either lines e x)
      ∙ line_last (with_line kind lines x) e xs

  -- the line of an entry of the list is there already
  line_there : (lines : List (List ℕ)) (e : Entry) (es : List Entry) (place : ℕ)
      → slice_get es place ≡ Some e
      → with_line kind (lines_with lines es) e ≡ lines_with lines es
  line_there lines e [] place h = cc
  line_there lines e (x ∷ xs) zero h =
      let same = same_Some x e h in
      subst (λ (y : Entry). with_line kind (lines_with (with_line kind lines x) xs) y
      ≡ lines_with (with_line kind lines x) xs) same
      (ap (λ (l : List (List ℕ)). with_line kind l x) (line_last lines x xs)
      ∙ line_once (lines_with lines xs) x ∙ sym (line_last lines x xs))
  line_there lines e (x ∷ xs) (suc place) h =
      line_there (with_line kind lines x) e xs place h

  -- so are those of entries that are in the list
  lines_there : (list es : List Entry) → AreIn list es
      → lines_with (lines_with [] list) es ≡ lines_with [] list
  lines_there list [] h = refl
  lines_there list (e ∷ es) h =
      let here = h 0 e refl in
      ap (λ (l : List (List ℕ)). lines_with l es) (line_there [] e list here.0 here.1)
      ∙ lines_there list es (λ place x at. h (suc place) x at)

  -- the lines of two lists, in either order
  lines_either : (lines : List (List ℕ)) (es fs : List Entry)
      → lines_with (lines_with lines es) fs ≡ lines_with (lines_with lines fs) es
  lines_either lines [] fs = refl
  lines_either lines (e ∷ es) fs =
      lines_either (with_line kind lines e) es fs
      ∙ ap (λ (l : List (List ℕ)). lines_with l es) (line_last lines e fs)

  -- lists with the same entries have the same lines
  pub lines_same : (list list2 : List Entry) → AreIn list2 list → AreIn list list2
      → lines_of kind list2 ≡ lines_of kind list
  lines_same list list2 there back =
      sym (lines_there list2 list there) ∙ lines_either [] list2 list
      ∙ lines_there list list2 back

-- ---- what is found in a list

-- an entry that is found passes the test and is in the list
find_some : (p : Entry → Bool) (es : List Entry) (e : Entry) → find p es ≡ Some e
    → (p e ≡ true) × IsIn es e
find_some p [] e h = absurd (none-some e h)
find_some p (x ∷ xs) e h = at (p x) refl h (find_some p xs e)
  where
    at : (b : Bool) → p x ≡ b → cond b (Some x) (find p xs) ≡ Some e
        → (find p xs ≡ Some e → (p e ≡ true) × IsIn xs e) → (p e ≡ true) × IsIn (x ∷ xs) e
    at true is h rest = (ap p (sym (same_Some x e h)) ∙ is, (0, h))
    at false is h rest = let r = rest h in (r.0, (suc r.1.0, r.1.1))

-- if none is found, none passes it
find_none : (p : Entry → Bool) (es : List Entry) → find p es ≡ None → (place : ℕ) (e : Entry)
    → slice_get es place ≡ Some e → p e ≡ false
find_none p [] h place e at = absurd (none-some e at)
find_none p (x ∷ xs) h place e at = by (p x) refl h place at (find_none p xs)
  where
    by : (b : Bool) → p x ≡ b → cond b (Some x) (find p xs) ≡ None → (place : ℕ)
        → slice_get (x ∷ xs) place ≡ Some e
        → (find p xs ≡ None → (place : ℕ) (e : Entry) → slice_get xs place ≡ Some e
        → p e ≡ false) → p e ≡ false
    by true is h place at rest = absurd (none-some x (sym h))
    by false is h zero at rest = ap p (sym (same_Some x e at)) ∙ is
    by false is h (suc place) at rest = rest h place e at

-- a list without two that are the same has only one that is the same as a third
only_one : (list : List Entry) → IsDistinct list → (x y e : Entry) → IsIn list x → IsIn list y
    → same x e ≡ true → same y e ≡ true → x ≡ y
only_one list distinct x y e in_x in_y is_x is_y =
    same_Some x y (sym in_x.1 ∙ ap (slice_get list) (at_one in_x.0 in_y.0 in_x.1 in_y.1) ∙ in_y.1)
  where
    at_one : (k m : ℕ) → slice_get list k ≡ Some x → slice_get list m ≡ Some y → k ≡ m
    at_one k m at_k at_m =
        let first : k < m → ⊥
        = λ lt. true≢false (sym (same-third x y e is_x is_y) ∙ distinct k m x y lt at_k at_m) in
        let second : m < k → ⊥
        = λ lt. true≢false (sym (same-third y x e is_y is_x) ∙ distinct m k y x lt at_m at_k) in
        grind (arith, first, second)

-- in lists with the same entries the same is found
found_same : (list list2 : List Entry) → IsDistinct list → AreIn list2 list → AreIn list list2
    → (e : Entry) → found_in list2 e ≡ found_in list e
found_same list list2 distinct there back e =
    by (found_in list e) refl (found_in list2 e) refl
  where
    by : (o : Option Entry) → found_in list e ≡ o → (o2 : Option Entry) → found_in list2 e ≡ o2
        → o2 ≡ o
    by None h None h2 = refl
    by None h (Some y) h2 =
        let found = find_some (λ (z : Entry). same z e) list2 y h2 in
        let at = back found.1.0 y found.1.1 in
        absurd (true≢false (sym found.0
        ∙ find_none (λ (z : Entry). same z e) list h at.0 y at.1))
    by (Some x) h None h2 =
        let found = find_some (λ (z : Entry). same z e) list x h in
        let at = there found.1.0 x found.1.1 in
        absurd (true≢false (sym found.0
        ∙ find_none (λ (z : Entry). same z e) list2 h2 at.0 x at.1))
    by (Some x) h (Some y) h2 =
        let found = find_some (λ (z : Entry). same z e) list x h in
        let found2 = find_some (λ (z : Entry). same z e) list2 y h2 in
        ap Some (only_one list distinct y x e (back found2.1.0 y found2.1.1) found.1 found2.0
        found.0)

-- ---- the lists

-- such lists are alike
pub lists_alike : (list list2 : List Entry) → IsDistinct list → AreIn list2 list
    → AreIn list list2 → AreListsAlike list list2
lists_alike list list2 distinct there back = record {
  lines = λ kind. lines_same kind list list2 there back;
  found = λ e. found_same list list2 distinct there back e;
}
