-- A name and a number each identify one algorithm.
use Rattle.std.proofs.Common.{◌≡◌, ◌==◌, ℕ, Bool, true, false, cond, List, [], ◌∷◌, Some, eqb-true, refl}
use Rattle.std.specs.List.{find}
use Rattle.std.specs.Str.{bytes_eq}
use lib.Pointwise.{bytes_decides}
use Rattle.hash_algos.specs.declared.algo.Algo.{Algo}
use Rattle.hash_algos.specs.declared.algo.Algo.TheVariants.{Md5, Sha1, Sha256, Sha384, Sha512, Sha224}
use Rattle.hash_algos.specs.Algo.{algo_by_id, algo_by_name, algo_id, algo_name, algos}

pub algo_by_id-id : (a : Algo) → algo_by_id (algo_id a) ≡ Some a
algo_by_id-id Md5 = refl
algo_by_id-id Sha1 = refl
algo_by_id-id Sha256 = refl
algo_by_id-id Sha384 = refl
algo_by_id-id Sha512 = refl
algo_by_id-id Sha224 = refl

pub algo_by_name-name : (a : Algo) → algo_by_name (algo_name a) ≡ Some a
algo_by_name-name Md5 = refl
algo_by_name-name Sha1 = refl
algo_by_name-name Sha256 = refl
algo_by_name-name Sha384 = refl
algo_by_name-name Sha512 = refl
algo_by_name-name Sha224 = refl

-- an element that a search finds passes its test
find-passes : {X : Type 0} (p : X → Bool) (xs : List X) (x : X) → find p xs ≡ Some x → p x ≡ true
find-passes p [] x found = absurd (cc found)
find-passes p (y ∷ ys) x found =
    elim (p y) as (λ b. p y ≡ b → cond b (Some y) (find p ys) ≡ Some x → p x ≡ true) [
      | true ↦ λ passes is. cc (passes, is)
      | false ↦ λ _ later. find-passes p ys x later
    ] refl found

pub algo_id-algo_by_id : (id : ℕ) (a : Algo) → algo_by_id id ≡ Some a → algo_id a ≡ id
algo_id-algo_by_id id a found =
    eqb-true (algo_id a) id (find-passes (λ b. algo_id b == id) algos a found)

pub algo_name-algo_by_name : (name : List ℕ) (a : Algo) → algo_by_name name ≡ Some a → algo_name a
    ≡ name
algo_name-algo_by_name name a found =
    (bytes_decides (algo_name a) name).0
    (find-passes (λ b. bytes_eq (algo_name b) name) algos a found)
