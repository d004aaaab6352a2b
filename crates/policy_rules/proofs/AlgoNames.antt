-- Parsing the names of hash algorithms.
use Rattle.std.proofs.Common.{◌≡◌, ℕ, ◌+◌, ◌≤◌, Bool, true, false, ◌||◌, List, ◌∷◌, length, drop, Option, Some, None, refl}
use Rattle.std.proofs.Math.ListN.{drop_of_length-le}
use Rattle.hash_algos.specs.declared.algo.Algo.{Algo}
use Rattle.hash_algos.specs.declared.algo.Algo.TheVariants as algo
use Rattle.hash_algos.specs.declared.algo_set.AlgoSet.{AlgoSet}
use Rattle.hash_algos.specs.Algo.{algo_by_name}
use Rattle.hash_algos.specs.AlgoSet.{with_algo, holds_algo}
use Rattle.policy_rules.specs.RuleValue.{has_algos}
use Rattle.policy_rules.specs.Values.{algos_from}

after : {b : Bool} (a : Bool) → b ≡ true → (a || b) ≡ true
after true e = refl
after false e = e

-- one more algorithm name
pub one_more : (s : AlgoSet) (name : List ℕ) (a : Algo) (ls : List (List ℕ)) (n m : ℕ)
    (whole : Option AlgoSet)
    → drop n ls ≡ name ∷ drop (n + 1) ls → algo_by_name name ≡ Some a → m ≡ n + 1
    → algos_from s (drop n ls) ≡ whole → algos_from (with_algo s a) (drop m ls) ≡ whole
one_more s name a ls n m whole item named is so_far = rw is (rw (item, named) at so_far)

pub no_name : (s : AlgoSet) (name : List ℕ) (ls : List (List ℕ)) (n : ℕ) (whole : Option AlgoSet)
    → drop n ls ≡ name ∷ drop (n + 1) ls → algo_by_name name ≡ None → algos_from s (drop n ls)
    ≡ whole → None ≡ whole
no_name s name ls n whole item bad so_far = rw (item, bad) at so_far

pub all_names : (s : AlgoSet) (ls : List (List ℕ)) (n : ℕ) (whole : Option AlgoSet) → length ls ≤ n
    → algos_from s (drop n ls) ≡ whole → Some s ≡ whole
all_names s ls n whole le so_far = rw (drop_of_length-le ls le) at so_far

-- a set to which an algorithm was added isn't empty
pub holds_one : (s : AlgoSet) (a : Algo) → has_algos (with_algo s a) ≡ true
holds_one s algo.Md5 = refl
holds_one s algo.Sha1 = after (holds_algo s algo.Md5) refl
holds_one s algo.Sha256 = after (holds_algo s algo.Md5) (after (holds_algo s algo.Sha1) refl)
holds_one s algo.Sha384 =
    after (holds_algo s algo.Md5)
    (after (holds_algo s algo.Sha1) (after (holds_algo s algo.Sha256) refl))
holds_one s algo.Sha512 =
    after (holds_algo s algo.Md5)
    (after (holds_algo s algo.Sha1)
    (after (holds_algo s algo.Sha256) (after (holds_algo s algo.Sha384) refl)))
holds_one s algo.Sha224 =
    after (holds_algo s algo.Md5)
    (after (holds_algo s algo.Sha1)
    (after (holds_algo s algo.Sha256)
    (after (holds_algo s algo.Sha384) (after (holds_algo s algo.Sha512) refl))))
