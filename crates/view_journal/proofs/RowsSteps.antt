-- The rows so far, and those that one more bar gives.
use Rattle.std.proofs.Common.{◌≡◌, ℕ, ◌+◌, ◌<◌, ◌≤◌, List, ◌∷◌, [], ◌++◌, length, drop, get_or, append_assoc, append-nil, ap, sym, ◌∙◌}
use Rattle.std.proofs.lemmas.List.{at_drop_all, at_drop_more}
use Rattle.view_journal.specs.declared.frame.Extent.{Extent}
use Rattle.view_journal.specs.Frame.{ends_with, first_free, rows_from}

pub rows_next : (bars : List Extent) (i row : ℕ) (d : Extent) (rows more ends next all : List ℕ)
    → i < length bars → row ≡ first_free (get_or bars i d).from ends
    → next ≡ ends_with (get_or bars i d).from (get_or bars i d).to ends
    → more ≡ rows ++ row ∷ [] → rows ++ rows_from ends (drop i bars) ≡ all
    → more ++ rows_from next (drop (i + 1) bars) ≡ all
rows_next bars i row d rows more ends next all lt row_is ends_are pushed h =
    let b : Extent = get_or bars i d in
    let rest : List Extent = drop (i + 1) bars in
    ap (λ (x : List ℕ). x ++ rows_from next rest) pushed
    ∙ (append_assoc rows (row ∷ []) (rows_from next rest)
    ∙ (ap (λ (x : List ℕ). rows ++ x)
    (ap (λ (r : ℕ). r ∷ rows_from next rest) row_is
    ∙ (ap (λ (es : List ℕ). first_free b.from ends ∷ rows_from es rest) ends_are
    ∙ sym (at_drop_more (rows_from ends) bars i d lt)))
    ∙ h))

-- after the last bar
pub rows_all : (bars : List Extent) (i : ℕ) (rows ends all : List ℕ) → length bars ≤ i
    → rows ++ rows_from ends (drop i bars) ≡ all → rows ≡ all
rows_all bars i rows ends all past h =
    sym (append-nil rows)
    ∙ (ap (λ (x : List ℕ). rows ++ x) (sym (at_drop_all (rows_from ends) bars i past)) ∙ h)
