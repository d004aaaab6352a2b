-- A hash in progress: its algorithm, and the message that it has taken.
use Rattle.std.specs.Prelude.{ℕ, List}
use Rattle.md5.specs.Md5 as md5
use Rattle.sha1.specs.Sha1 as sha1
use Rattle.sha2.specs.Hashers as sha2
use Rattle.hash_algos.specs.declared.algo.Algo.{Algo}
use Rattle.hash_algos.specs.declared.algo.Algo.TheVariants as algo
use Rattle.hash_algos.specs.declared.running.Running.{Running}
use Rattle.hash_algos.specs.declared.running.Hasher.{Hasher}
use Rattle.hash_algos.specs.declared.running.Hasher.TheVariants.{Md5, Sha1, Sha256, Sha384, Sha512, Sha224}

abbrev pub hasher_algo : Hasher → Algo
hasher_algo (Md5 h) = algo.Md5
hasher_algo (Sha1 h) = algo.Sha1
hasher_algo (Sha256 h) = algo.Sha256
hasher_algo (Sha384 h) = algo.Sha384
hasher_algo (Sha512 h) = algo.Sha512
hasher_algo (Sha224 h) = algo.Sha224

abbrev pub HasherHolds : Hasher → List ℕ → Type 0
HasherHolds (Md5 h) m = md5.Holds h m
HasherHolds (Sha1 h) m = sha1.Holds h m
HasherHolds (Sha256 h) m = sha2.Holds256 h m
HasherHolds (Sha384 h) m = sha2.Holds384 h m
HasherHolds (Sha512 h) m = sha2.Holds512 h m
HasherHolds (Sha224 h) m = sha2.Holds224 h m

abbrev pub running_algo : Running → Algo
running_algo r = hasher_algo r.hasher

-- the pieces fed so far are together the message m
abbrev pub HasTaken : Running → List ℕ → Type 0
HasTaken r m = HasherHolds r.hasher m
