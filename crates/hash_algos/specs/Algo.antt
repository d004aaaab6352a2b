-- The table of hash algorithms: the names and numbers of include/uapi/linux/hash_info.h, and the
-- sizes of digests (RFC 1321, FIPS 180-4).
use Rattle.std.specs.Prelude.{ℕ, List, [], ◌∷◌, ◌==◌, Option, codes}
use Rattle.std.specs.List.{find}
use Rattle.std.specs.Str.{bytes_eq}
use Rattle.hash_algos.specs.declared.algo.Algo.{Algo}
use Rattle.hash_algos.specs.declared.algo.Algo.TheVariants.{Md5, Sha1, Sha256, Sha384, Sha512, Sha224}

-- the algorithms, in the order of their numbers
abbrev pub algos : List Algo
algos = Md5 ∷ Sha1 ∷ Sha256 ∷ Sha384 ∷ Sha512 ∷ Sha224 ∷ []

abbrev pub algo_id : Algo → ℕ
algo_id Md5 = 1
algo_id Sha1 = 2
algo_id Sha256 = 4
algo_id Sha384 = 5
algo_id Sha512 = 6
algo_id Sha224 = 7

abbrev pub algo_name : Algo → List ℕ
algo_name Md5 = codes "md5"
algo_name Sha1 = codes "sha1"
algo_name Sha256 = codes "sha256"
algo_name Sha384 = codes "sha384"
algo_name Sha512 = codes "sha512"
algo_name Sha224 = codes "sha224"

-- the size of a digest in bytes
abbrev pub algo_size : Algo → ℕ
algo_size Md5 = 16
algo_size Sha1 = 20
algo_size Sha256 = 32
algo_size Sha384 = 48
algo_size Sha512 = 64
algo_size Sha224 = 28

-- the algorithm of the table with this number, if there is one
abbrev pub algo_by_id : ℕ → Option Algo
algo_by_id id = find (λ a. algo_id a == id) algos

-- the algorithm of the table with this name, if there is one
abbrev pub algo_by_name : List ℕ → Option Algo
algo_by_name name = find (λ a. bytes_eq (algo_name a) name) algos
