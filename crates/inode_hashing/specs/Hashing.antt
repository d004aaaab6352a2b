-- A collection in progress: its algorithm, and the bytes that it has taken.
use Rattle.std.specs.Prelude.{◌≡◌, ℕ, List, Option, Some, None}
use Rattle.hash_algos.specs.declared.algo.Algo.{Algo}
use Rattle.hash_algos.specs.declared.algo.Algo.TheVariants.{Sha1}
use Rattle.hash_algos.specs.declared.running.Running.{Running}
use Rattle.hash_algos.specs.Running.{running_algo, HasTaken}
use Rattle.inode_hashing.specs.declared.hashing.Hashing.{Hashing}

-- the SHA-1 hash that runs next to a hash by a, absent if a is SHA-1 itself
abbrev pub HasBeside : Option Running → Algo → List ℕ → Type 0
HasBeside None a m = a ≡ Sha1
HasBeside (Some sha1) a m = (running_algo sha1 ≡ Sha1) × HasTaken sha1 m

-- the collection hashes by a, and the pieces taken so far are together the bytes m
pub record HasHashed (h : Hashing) (a : Algo) (m : List ℕ) : Type 0 where
  pub algo : running_algo h.chosen ≡ a
  pub taken : HasTaken h.chosen m
  pub beside : HasBeside h.sha1 a m
