-- What holds of orders and of their rows, for states of any type M and outcomes of any type O.
use Rattle.std.specs.Prelude.{◌≡◌, ℕ, zero, suc, ◌<◌, true, List, [], ◌∷◌, Option, Some, slice_get}
use Rattle.order_counts.specs.Layers.{AllAdvance, AreAlike, HaveOneOutcome, root}
use Rattle.order_counts.specs.Orders.{AreListed, has_no_twins}
use Rattle.order_counts.specs.Rows.{AreRows, Counted}

-- if no task is named twice, the list of orders has each order of at most k turns exactly once, and
-- nothing else
abbrev pub OrdersAreListed : Type 0 → Type 0
OrdersAreListed M =
    (go : M → ℕ → Option M) (tasks : List ℕ) (k : ℕ) (m : Option M)
    → has_no_twins tasks ≡ true → AreListed go tasks k m

-- counting goes on from this layer and these rows for k turns more, after which no way is left
abbrev pub CountsTo : {M O : Type 0} → (M → ℕ → Option M) → List ℕ → M → (M → O)
    → (M → M → Type 0) → ℕ → List Counted → List Counted → List Counted → Type 0
CountsTo go tasks start outcome Alike zero layer rows last = (layer ≡ []) × (rows ≡ last)
CountsTo go tasks start outcome Alike (suc k) layer rows last =
    (next : List Counted) × ((more : List Counted)
    × (AllAdvance go tasks start outcome Alike layer [] rows next more
    × CountsTo go tasks start outcome Alike k next more last))

-- no two rows have the same outcome
abbrev pub AreDistinct : {M O : Type 0} → (M → ℕ → Option M) → M → (M → O) → List Counted → Type 0
AreDistinct go start outcome rows = (a b : ℕ) (x y : Counted) → a < b
    → slice_get rows a ≡ Some x → slice_get rows b ≡ Some y
    → HaveOneOutcome go outcome start x.order y.order → ⊥

-- Counting from the way without turns gives the rows. `sight` is what is compared of two states:
-- those at which it is equal are met as one
abbrev pub CountingGivesRows : Type 0 → Type 0 → Type 0 → Type 0
CountingGivesRows M O S =
    (go : M → ℕ → Option M) (tasks : List ℕ) (start : M) (outcome : M → O) (sight : M → S)
    → AreAlike go tasks start outcome (λ a b. sight a ≡ sight b)
    → (k : ℕ) (rows : List Counted)
    → CountsTo go tasks start outcome (λ a b. sight a ≡ sight b) k (root ∷ []) [] rows
    → AreDistinct go start outcome rows → AreRows go tasks start outcome rows
