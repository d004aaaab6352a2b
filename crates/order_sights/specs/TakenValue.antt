-- The pieces that a collection has taken, and their bytes.
use Rattle.std.specs.Prelude.{ℕ, List}

pub record TakenValue : Type 0 where
  pub pieces : ℕ
  pub bytes : List ℕ
