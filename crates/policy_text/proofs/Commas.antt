-- Names separated by commas, printed one by one.
use Rattle.std.proofs.Common.{◌≡◌, ℕ, ◌+◌, ◌<◌, true, false, List, [], ◌∷◌, ◌++◌, take, map, get_or, length, refl, sym, ap, ◌∙◌, append_assoc}
use Rattle.std.specs.List.{filter, join_with_byte}
use Rattle.hash_algos.specs.declared.algo.Algo.{Algo}
use Rattle.std.proofs.lemmas.List.{take_more, map_push, append-nil}
use Rattle.std.proofs.lemmas.List.Elements.{filter-append}
use Rattle.hash_algos.specs.declared.algo.Algo.TheVariants as algo
use Rattle.hash_algos.specs.declared.algo_set.AlgoSet.{AlgoSet}
use Rattle.hash_algos.specs.Algo.{algos, algo_name}
use Rattle.hash_algos.specs.AlgoSet.{holds_algo}

-- the names of those of the first i algorithms that the set holds
abbrev pub names_to : AlgoSet → ℕ → List (List ℕ)
names_to s i = map algo_name (filter (holds_algo s) (take i algos))

-- the comma before the next name, or nothing before the first
abbrev pub comma_after : List (List ℕ) → List ℕ
comma_after [] = []
comma_after (n ∷ ns) = 44 ∷ []

pub join_more : (ns : List (List ℕ)) (n : List ℕ) → join_with_byte 44 (ns ++ n ∷ [])
    ≡ join_with_byte 44 ns ++ (comma_after ns ++ n)
join_more [] n = refl
join_more (m ∷ []) n = refl
join_more (m ∷ k ∷ ns) n = rw (join_more (k ∷ ns) n) (simp append_assoc)

module _ (s : AlgoSet) (xs : List Algo) (i : ℕ) (lt : i < length xs) where
  names_more : map algo_name (filter (holds_algo s) (take (i + 1) xs))
      ≡ map algo_name (filter (holds_algo s) (take i xs)
      ++ filter (holds_algo s) (get_or xs i algo.Md5 ∷ []))
  names_more =
      ap (λ (ys : List Algo). map algo_name (filter (holds_algo s) ys)) (take_more xs i algo.Md5 lt)
      ∙ ap (λ (ys : List Algo). map algo_name ys)
      (filter-append (holds_algo s) (take i xs) (get_or xs i algo.Md5 ∷ []))

  -- the names after one more algorithm, if the set holds it
  pub names_more_in : holds_algo s (get_or xs i algo.Md5) ≡ true
      → map algo_name (filter (holds_algo s) (take (i + 1) xs))
      ≡ map algo_name (filter (holds_algo s) (take i xs)) ++ algo_name (get_or xs i algo.Md5) ∷ []
  names_more_in h = names_more
      ∙ rw h (map_push algo_name (filter (holds_algo s) (take i xs)) (get_or xs i algo.Md5))

  -- the names after one more algorithm, if the set doesn't hold it
  pub names_more_out : holds_algo s (get_or xs i algo.Md5) ≡ false
      → map algo_name (filter (holds_algo s) (take (i + 1) xs))
      ≡ map algo_name (filter (holds_algo s) (take i xs))
  names_more_out h = names_more
      ∙ rw h (ap (λ (ys : List Algo). map algo_name ys)
      (append-nil (filter (holds_algo s) (take i xs))))

comma_next : (ns : List (List ℕ)) (n : List ℕ) → comma_after (ns ++ n ∷ []) ≡ 44 ∷ []
comma_next [] n = refl
comma_next (m ∷ ns) n = refl

-- the text after one more name is printed after its comma
pub printed : (front out comma new : List ℕ) (ns more : List (List ℕ)) (name : List ℕ) → out ≡ front
    ++ join_with_byte 44 ns → comma ≡ comma_after ns
    → more ≡ ns ++ name ∷ [] → new ≡ out ++ (comma ++ name)
    → (new ≡ front ++ join_with_byte 44 more) × (44 ∷ [] ≡ comma_after more)
printed front out comma new ns more name o k m n = (
  rw (n, o, k, m, join_more ns name)
      (append_assoc front (join_with_byte 44 ns) (comma_after ns ++ name)),
  rw m (sym (comma_next ns name)),
)
