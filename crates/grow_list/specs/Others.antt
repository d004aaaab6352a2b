-- The passes of a list whose owner keeps the pass number 0 for itself.
use Rattle.std.specs.Prelude.{◌≡◌, ℕ, ◌<◌, ◌==◌, if◌then◌else◌, List, All, count_by}
use Rattle.grow_list.specs.Shown.{Grown, Passed}

-- the number of passes with this number, apart from the owner's
abbrev pub beside_own : ℕ → ℕ
beside_own n = if n == 0 then 0 else 1

-- these are all passes of the list except its owner's, each once
pub record HasOthers {E : Type 0} (g : Grown E) (passes : List (Passed E)) : Type 0 where
  pub of_list : All (λ p. p.name ≡ g.name) passes
  pub one_each : (n : ℕ) → n < g.callers → count_by (λ p. p.number == n) passes ≡ beside_own n
