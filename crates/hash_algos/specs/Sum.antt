-- Conversion between the representation of a digest, an array for each algorithm, and the record of
-- its algorithm and its bytes.
use Rattle.std.specs.Prelude.{◌≡◌, ℕ, List, refl}
use Rattle.hash_algos.specs.declared.algo.Algo.{Algo}
use Rattle.hash_algos.specs.declared.algo.Algo.TheVariants as algo
use Rattle.hash_algos.specs.declared.digest.Sum.{Sum}
use Rattle.hash_algos.specs.declared.digest.Sum.TheVariants as sum

abbrev pub sum_algo : Sum → Algo
sum_algo (sum.Md5 b) = algo.Md5
sum_algo (sum.Sha1 b) = algo.Sha1
sum_algo (sum.Sha256 b) = algo.Sha256
sum_algo (sum.Sha384 b) = algo.Sha384
sum_algo (sum.Sha512 b) = algo.Sha512
sum_algo (sum.Sha224 b) = algo.Sha224

abbrev pub sum_bytes : Sum → List ℕ
sum_bytes (sum.Md5 b) = b
sum_bytes (sum.Sha1 b) = b
sum_bytes (sum.Sha256 b) = b
sum_bytes (sum.Sha384 b) = b
sum_bytes (sum.Sha512 b) = b
sum_bytes (sum.Sha224 b) = b

abbrev pub sum_of : Algo → List ℕ → Sum
sum_of algo.Md5 b = sum.Md5 b
sum_of algo.Sha1 b = sum.Sha1 b
sum_of algo.Sha256 b = sum.Sha256 b
sum_of algo.Sha384 b = sum.Sha384 b
sum_of algo.Sha512 b = sum.Sha512 b
sum_of algo.Sha224 b = sum.Sha224 b

pub sum_of-parts : (s : Sum) → sum_of (sum_algo s) (sum_bytes s) ≡ s
sum_of-parts (sum.Md5 b) = refl
sum_of-parts (sum.Sha1 b) = refl
sum_of-parts (sum.Sha256 b) = refl
sum_of-parts (sum.Sha384 b) = refl
sum_of-parts (sum.Sha512 b) = refl
sum_of-parts (sum.Sha224 b) = refl
