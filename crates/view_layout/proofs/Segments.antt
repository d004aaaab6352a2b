-- The segments of a strip so far, and those that one more column gives.
use Rattle.std.proofs.Common.{◌≡◌, ℕ, ◌+◌, ◌-◌, ◌<◌, ◌≤◌, ◌==◌, true, false, ◌&&◌, List, [], ◌∷◌, ◌++◌, length, drop, get_or, refl, sym, ap, ◌∙◌}
use Rattle.std.proofs.lemmas.List.{at_drop_more}
use Rattle.list_lemmas.proofs.Remaining.{none_left, one_less}
use Rattle.view_journal.specs.declared.column.Column.{Column}
use Rattle.view_journal.specs.declared.items.Item.{Item}
use Rattle.view_journal.specs.declared.items.Strip.{Strip}
use Rattle.view_journal.specs.Frame.{middle}
use Rattle.view_layout.specs.Drawing.{middle_end, segment, segments_from, shown_in}

module _ (strip : Strip) (from to shown : ℕ) (cs : List Column) (i : ℕ) where
  -- the last segment goes on in the next column
  pub goes_on : (d : Column) (x next : ℕ) (out all : List Item) → i < length cs
      → x ≡ middle (get_or cs i d).x → next ≡ shown_in strip (get_or cs i d).state
      → (next == shown && x == to) ≡ true
      → out ++ segments_from strip from to shown (drop i cs) ≡ all
      → out ++ segments_from strip from (x + 30) shown (drop (i + 1) cs) ≡ all
  goes_on d x next out all lt x_is next_is same h =
      let c : Column = get_or cs i d in
      let rest : List Column = drop (i + 1) cs in
      let here : (shown_in strip c.state == shown && middle c.x == to) ≡ true
      = rw (x_is, next_is) at same in
      let on : segments_from strip from to shown (c ∷ rest)
      ≡ segments_from strip from (middle_end c.x) shown rest = rw here refl in
      rw x_is
      (ap (λ (l : List Item). out ++ l)
      (sym (at_drop_more (segments_from strip from to shown) cs i d lt ∙ on))
      ∙ h)

  -- another one begins there
  pub begins : (d : Column) (x next : ℕ) (out new all : List Item) → i < length cs
      → x ≡ middle (get_or cs i d).x → next ≡ shown_in strip (get_or cs i d).state
      → (next == shown && x == to) ≡ false → new ≡ out ++ segment strip from to shown ∷ []
      → out ++ segments_from strip from to shown (drop i cs) ≡ all
      → new ++ segments_from strip x (x + 30) next (drop (i + 1) cs) ≡ all
  begins d x next out new all lt x_is next_is unlike pushed h =
      let c : Column = get_or cs i d in
      let rest : List Item
      = segments_from strip (middle c.x) (middle_end c.x) (shown_in strip c.state) (drop (i + 1) cs)
      in
      let here : (shown_in strip c.state == shown && middle c.x == to) ≡ false
      = rw (x_is, next_is) at unlike in
      let on : segments_from strip from to shown (c ∷ drop (i + 1) cs)
      ≡ segment strip from to shown ∷ rest = rw here refl in
      rw (x_is, next_is)
      (one_less out (segments_from strip from to shown) cs i d (segment strip from to shown ∷ [])
      rest lt on h pushed)

  -- the last one ends at the edge of its column
  pub ends : (end : ℕ) (out new all : List Item) → length cs ≤ i → end ≡ to - 15
      → new ≡ out ++ segment strip from end shown ∷ []
      → out ++ segments_from strip from to shown (drop i cs) ≡ all → new ≡ all
  ends end out new all past is pushed h =
      pushed
      ∙ (ap (λ (e : ℕ). out ++ segment strip from e shown ∷ []) is
      ∙ none_left out (segments_from strip from to shown) cs i past h)
