-- The laws of orders and of their rows.
use Rattle.std.proofs.Common.{◌≡◌, ℕ, zero, suc, List, [], ◌∷◌, Option, subst}
use Rattle.order_counts.specs.Layers.{AreAlike, StandsAt, root}
use Rattle.order_counts.specs.Laws.{AreDistinct, CountingGivesRows, CountsTo, OrdersAreListed}
use Rattle.order_counts.specs.Rows.{AreRows, Counted}
use Rattle.order_counts.proofs.Apart.{are_listed}
use Rattle.order_counts.proofs.Whole.{begins, ends, step}

pub listed : (M : Type 0) → OrdersAreListed M
listed M go tasks k m twins = are_listed go tasks twins k m

module _ {M O : Type 0} (go : M → ℕ → Option M) (tasks : List ℕ) (start : M) (outcome : M → O)
    (Alike : M → M → Type 0) (alike : AreAlike go tasks start outcome Alike)
    (last : List Counted) (distinct : AreDistinct go start outcome last) where
  -- what stands after j turns leads to the rows once no way is left
  counts_on : (k j : ℕ) (layer rows : List Counted)
      → StandsAt go tasks start outcome Alike j layer rows
      → CountsTo go tasks start outcome Alike k layer rows last
      → AreRows go tasks start outcome last
  counts_on zero j layer rows s h =
      ends go tasks start outcome Alike alike j last
      (subst (λ (rs : List Counted). StandsAt go tasks start outcome Alike j [] rs) h.1
      (subst (λ (cs : List Counted). StandsAt go tasks start outcome Alike j cs rows) h.0 s))
      distinct
  counts_on (suc k) j layer rows s h =
      counts_on k (suc j) h.0 h.1.0
      (step go tasks start outcome Alike alike j layer rows h.0 h.1.0 s h.1.1.0) h.1.1.1

pub counted : (M O S : Type 0) → CountingGivesRows M O S
counted M O S go tasks start outcome sight alike k rows counts distinct =
    counts_on go tasks start outcome (λ a b. sight a ≡ sight b) alike rows distinct k 0
    (root ∷ []) []
    (begins go tasks start outcome (λ a b. sight a ≡ sight b) alike) counts
