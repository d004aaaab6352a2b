-- What a collection took of a content, as contracts see it.
use Rattle.std.specs.Prelude.{ℕ, List}
use Rattle.world_model.specs.model.events.hashes.declared.algo.Algo.{Algo}

-- its algorithm, how many pieces it took, and their bytes
pub record TakenValue : Type 0 where
  pub algo : Algo
  pub pieces : ℕ
  pub bytes : List ℕ
