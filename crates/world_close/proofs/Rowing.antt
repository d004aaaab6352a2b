-- The rows of the tasks' passes give their last passes to a column.
use Rattle.std.proofs.Common.{◌≡◌, ℕ, ◌+◌, ◌<◌, ◌≤◌, List, [], ◌∷◌, ◌++◌, length, ap, sym, ◌∙◌, arith, Some, ◌⊎◌, inl, inr, subst, length-append, get_or, suc, zero}
use Rattle.std.specs.Prelude.{slice_get, slice_set}
use Rattle.std.proofs.lemmas.Option.{same_Some, slice_get_within}
use Rattle.grow_list.specs.Shown.{Grown, ListName, Passed}
use Rattle.grow_list.specs.Others.{HasOthers}
use Rattle.grow_list.proofs.Others.{others_in_order}
use Rattle.inode_events.specs.declared.told.Event.{Event}
use Rattle.world_model.specs.inodes.Ending.{HasPasses}
use Rattle.world_model.specs.inodes.Value.{CellValue}
use Rattle.world_close.specs.Rows.{ColumnFits, RowFits, RowsFit, RowsMid}
use Rattle.world_close.proofs.Gets.{get_left, get_last, get_parts, get_set, got}

-- the row that is due isn't empty
pub has_more : (k n : ℕ) (names : ℕ → ListName) (rows : List (List (Passed Event)))
    (column row : List (Passed Event)) → RowsMid k n names rows column
    → slice_get rows k ≡ Some row → row ≡ [] → ⊥
has_more k n names rows column row m at none =
    let fit = m.left k row (omega arith) at in
    let count : length row ≡ n + 1 = fit.count in
    let empty : length row ≡ 0 = ap length none in
    omega arith

-- the column grows by one pass that fits
column_more : (k n : ℕ) (names : ℕ → ListName) (rows : List (List (Passed Event)))
    (column : List (Passed Event)) (q : Passed Event) → RowsMid k n names rows column
    → (q.number ≡ k + 1) × (q.name ≡ names n) → ColumnFits (names n) (column ++ q ∷ [])
column_more k n names rows column q m fits j x is =
    at (get_parts column (q ∷ []) j x is) where
      last : (i : ℕ) → j ≡ length column + i → slice_get (q ∷ []) i ≡ Some x
          → (x.number ≡ j + 1) × (x.name ≡ names n)
      last i here there = only i here there where
        only : (i : ℕ) → j ≡ length column + i → slice_get (q ∷ []) i ≡ Some x
            → (x.number ≡ j + 1) × (x.name ≡ names n)
        only zero here there =
            let same : q ≡ x = same_Some q x there in
            let count : length column ≡ k = m.count in
            let number : q.number ≡ j + 1 = (let f : q.number ≡ k + 1 = fits.0 in omega arith) in (
              ap (λ (y : Passed Event). y.number) (sym same) ∙ number,
              ap (λ (y : Passed Event). y.name) (sym same) ∙ fits.1,
            )
        only (suc i) here there = absurd (cc)

      at : (slice_get column j ≡ Some x)
          ⊎ ((i : ℕ) × ((j ≡ length column + i) × (slice_get (q ∷ []) i ≡ Some x)))
          → (x.number ≡ j + 1) × (x.name ≡ names n)
      at (inl w) = m.column_fits j x w
      at (inr w) = last w.0 w.1.0 w.1.1

-- row k gives its last pass to the column
pub mid_more : (k n : ℕ) (names : ℕ → ListName) (rows : List (List (Passed Event)))
    (column row row2 : List (Passed Event)) (q : Passed Event)
    → RowsMid k n names rows column → slice_get rows k ≡ Some row → row ≡ row2 ++ q ∷ []
    → RowsMid (k + 1) n names (slice_set rows k row2) (column ++ q ∷ [])
mid_more k n names rows column row row2 q m at split = record {
  count = omega (arith, length-append column (q ∷ []), m.count);
  column_fits = column_more k n names rows column q m q_fits;
  given = λ j r below is. given j r below (get_set rows k j row2 r is);
  left = λ j r above is. left j r above (get_set rows k j row2 r is);
} where
  fit : RowFits (n + 1) names k row
  fit = m.left k row (omega arith) at

  len : length row2 ≡ n
  len = omega (arith, fit.count, ap length split, length-append row2 (q ∷ []))

  q_at : slice_get row (length row2) ≡ Some q
  q_at = ap (λ (r : List (Passed Event)). slice_get r (length row2)) split ∙ get_last row2 q

  q_fits : (q.number ≡ k + 1) × (q.name ≡ names n)
  q_fits = let f = fit.each (length row2) q q_at in (f.0, f.1 ∙ ap names len)

  given : (j : ℕ) (r : List (Passed Event)) → j < k + 1
      → ((k ≡ j) × (row2 ≡ r)) ⊎ ((k ≡ j → ⊥) × (slice_get rows j ≡ Some r))
      → RowFits n names j r
  given j r below (inl w) = record {
    count = ap length (sym w.1) ∙ len;
    each = λ i x here.
        let there : slice_get row i ≡ Some x =
        ap (λ (l : List (Passed Event)). slice_get l i) split
        ∙ get_left row2 (q ∷ []) i x
        (ap (λ (l : List (Passed Event)). slice_get l i) w.1 ∙ here) in
        let f = fit.each i x there in
        (f.0 ∙ ap (λ (y : ℕ). y + 1) w.0, f.1);
  }
  given j r below (inr w) = m.given j r (before_it j k below w.0) w.1 where
    before_it : (j k : ℕ) → j < k + 1 → (k ≡ j → ⊥) → j < k
    before_it j k b ne = grind arith

  left : (j : ℕ) (r : List (Passed Event)) → k + 1 ≤ j
      → ((k ≡ j) × (row2 ≡ r)) ⊎ ((k ≡ j → ⊥) × (slice_get rows j ≡ Some r))
      → RowFits (n + 1) names j r
  left j r above (inl w) = let e : k ≡ j = w.0 in absurd (omega arith)
  left j r above (inr w) = m.left j r (omega arith) w.1

-- before the first row
pub mid_none : (n : ℕ) (names : ℕ → ListName) (rows : List (List (Passed Event)))
    (column : List (Passed Event)) → column ≡ [] → RowsFit (n + 1) names rows
    → RowsMid 0 n names rows column
mid_none n names rows column none fit = record {
  count = ap length none;
  column_fits = subst (λ (l : List (Passed Event)). ColumnFits (names n) l) (sym none)
      (λ k q at. let b : k < 0 = slice_get_within [] k q at in absurd (omega arith));
  given = λ j row below at. absurd (omega arith);
  left = λ j row above at. fit j row at;
}

-- after the last row
pub mid_all : (k n : ℕ) (names : ℕ → ListName) (rows : List (List (Passed Event)))
    (column : List (Passed Event)) → length rows ≤ k → RowsMid k n names rows column
    → RowsFit n names rows
mid_all k n names rows column all m j row at =
    m.given j row (let b : j < length rows = slice_get_within rows j row at in omega arith) at

-- the passes of a complete column are all passes of the journal except its own
pub column_others : (c : CellValue) (name : ListName) (column : List (Passed Event))
    → ColumnFits name column → length column + 1 ≡ c.callers → c.journal ≡ name
    → HasPasses c column
column_others c name column fits count is =
    record { of_journal = others.of_list; one_each = others.one_each } where
      g : Grown Event
      g = record {
        name = c.journal;
        callers = c.callers;
        spare = c.spare;
        list = c.list;
        numbers = [];
      }

      others : HasOthers g column
      others = others_in_order g column count
          (λ k d b. (fits k (get_or column k d) (got column k d b)).1 ∙ sym is)
          (λ k p e. (fits k p e).0)
