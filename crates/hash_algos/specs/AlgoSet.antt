-- A set of algorithms, as a Bool for each algorithm: sets with the same elements are equal.
use Rattle.std.specs.Prelude.{Bool, true, false}
use Rattle.hash_algos.specs.declared.algo.Algo.{Algo}
use Rattle.hash_algos.specs.declared.algo.Algo.TheVariants.{Md5, Sha1, Sha256, Sha384, Sha512, Sha224}
use Rattle.hash_algos.specs.declared.algo_set.AlgoSet.{AlgoSet}

abbrev pub no_algos : AlgoSet
no_algos = record {
  md5 = false;
  sha1 = false;
  sha256 = false;
  sha384 = false;
  sha512 = false;
  sha224 = false;
}

-- whether the set holds the algorithm
abbrev pub holds_algo : AlgoSet → Algo → Bool
holds_algo s Md5 = s.md5
holds_algo s Sha1 = s.sha1
holds_algo s Sha256 = s.sha256
holds_algo s Sha384 = s.sha384
holds_algo s Sha512 = s.sha512
holds_algo s Sha224 = s.sha224

-- the set with this algorithm added
abbrev pub with_algo : AlgoSet → Algo → AlgoSet
with_algo s Md5 = record s { md5 = true }
with_algo s Sha1 = record s { sha1 = true }
with_algo s Sha256 = record s { sha256 = true }
with_algo s Sha384 = record s { sha384 = true }
with_algo s Sha512 = record s { sha512 = true }
with_algo s Sha224 = record s { sha224 = true }
