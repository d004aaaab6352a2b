-- The bytes that a hash takes in a call.
use Rattle.std.specs.Prelude.{◌≡◌, ℕ, List, [], ◌++◌, refl}
use Rattle.std.proofs.Common.{sym, ◌∙◌, subst, append_assoc}
use Rattle.std.proofs.lemmas.List.{append-nil}
use Rattle.hash_algos.specs.declared.running.Running.{Running}
use Rattle.hash_algos.specs.Running.{running_algo, HasTaken}

-- the hash took exactly these bytes
pub record Feeds (old new : Running) (bytes : List ℕ) : Type 0 where
  pub algo : running_algo new ≡ running_algo old
  pub taken : (m : List ℕ) → HasTaken old m → HasTaken new (m ++ bytes)

pub Feeds-nothing : (a : Running) → Feeds a a []
Feeds-nothing a = record {
  algo = refl;
  taken = λ m held. subst (λ n. HasTaken a n) (sym (append-nil m)) held;
}

-- two calls in a row take the bytes of the first and then of the second
pub Feeds-append : (a b c : Running) (x y : List ℕ) → Feeds a b x → Feeds b c y → Feeds a c (x ++ y)
Feeds-append a b c x y first second = record {
  algo = second.algo ∙ first.algo;
  taken =
      λ m held. subst (λ n. HasTaken c n) (append_assoc m x y)
      (second.taken (m ++ x) (first.taken m held));
}
