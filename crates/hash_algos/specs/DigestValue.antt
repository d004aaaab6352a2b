-- A digest as contracts see it.
use Rattle.std.specs.Prelude.{ℕ, List}
use Rattle.hash_algos.specs.declared.algo.Algo.{Algo}

-- an algorithm and the bytes that it gave, in the order in which its standard writes them
pub record DigestValue : Type 0 where
  pub algo : Algo
  pub bytes : List ℕ
