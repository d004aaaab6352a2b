-- The effect of an extend on a register.
use Rattle.std.specs.Prelude.{ℕ, List, ◌++◌, replicate}
use Rattle.hash_algos.specs.declared.algo.Algo.TheVariants as algo
use Rattle.hash_algos.specs.Hash.{hash}
use Rattle.inode_meta.specs.declared.measurement.Bank.{Bank}
use Rattle.inode_meta.specs.declared.measurement.Bank.TheVariants.{Sha1, Sha256}

-- the initial value of a register: as many zeros as the bank's digests have bytes
abbrev pub zero_register : Bank → List ℕ
zero_register Sha1 = replicate 20 0
zero_register Sha256 = replicate 32 0

-- a register after an extend: the bank's hash of its old value followed by the digest
abbrev pub extended : Bank → List ℕ → List ℕ → List ℕ
extended Sha1 old digest = hash algo.Sha1 (old ++ digest)
extended Sha256 old digest = hash algo.Sha256 (old ++ digest)
