-- Digests: an algorithm and its bytes.
use Rattle.std.specs.Prelude.{◌≡◌, ℕ, List, length, replicate}
use Rattle.hash_algos.specs.declared.algo.Algo.{Algo}
use Rattle.hash_algos.specs.declared.digest.Digest.{Digest}
use Rattle.hash_algos.specs.Algo.{algo_size}
use Rattle.hash_algos.specs.Hash.{hash}

-- the digest has as many bytes as its algorithm gives
abbrev pub HasDigestSize : Digest → Type 0
HasDigestSize d = length d.bytes ≡ algo_size d.algo

-- the digest of the bytes m by the algorithm a
abbrev pub digest_of : Algo → List ℕ → Digest
digest_of a m = record { algo = a; bytes = hash a m }

-- the digest whose bytes are all zero
abbrev pub zero_digest : Algo → Digest
zero_digest a = record { algo = a; bytes = replicate (algo_size a) 0 }
