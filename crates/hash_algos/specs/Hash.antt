-- The function that each algorithm computes on a list of bytes.
use Rattle.std.specs.Prelude.{ℕ, List}
use Rattle.hash_algos.specs.declared.algo.Algo.{Algo}
use Rattle.hash_algos.specs.declared.algo.Algo.TheVariants.{Md5, Sha1, Sha256, Sha384, Sha512, Sha224}
use Rattle.md5.specs.Md5.{md5}
use Rattle.sha1.specs.Sha1.{sha1}
use Rattle.sha2.specs.Sha256.{sha224, sha256}
use Rattle.sha2.specs.Sha512.{sha384, sha512}

-- the hash of the bytes m, as RFC 1321 and FIPS 180-4 define it
abbrev pub hash : Algo → List ℕ → List ℕ
hash Md5 m = md5 m
hash Sha1 m = sha1 m
hash Sha256 m = sha256 m
hash Sha384 m = sha384 m
hash Sha512 m = sha512 m
hash Sha224 m = sha224 m
