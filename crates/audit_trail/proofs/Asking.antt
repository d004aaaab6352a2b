-- The first line that matches, among the first rules of a longer list.
use Rattle.std.proofs.Common.{◌≡◌, ℕ, zero, suc, ◌+◌, ◌<◌, ◌≤◌, Bool, true, false, cond, List, [], ◌∷◌, take, Option, Some, None, refl, sym, ◌∙◌, ap, arith}
use Rattle.std.specs.Prelude.{nat_lt, slice_get}
use Rattle.std.specs.List.{position_from}
use Rattle.std.proofs.lemmas.Bool.{cond-false, cond-true, le-ltb, lt-ltb}
use Rattle.std.proofs.lemmas.Option.{none-some, same_Some}
use Rattle.world_model.specs.model.matching.Decision.{decides, place_of_first}
use Rattle.world_model.specs.model.matching.declared.family.Family.{Family}
use Rattle.world_model.specs.model.policy.RuleValue.{RuleValue}
use Rattle.world_model.specs.model.policy.declared.access.Access.{Access}
use Rattle.audit_trail.specs.Asked.{asking_line, asks, if_asking}

-- ---- the first element that passes, in a first part of a list

-- the place, if it is below a limit
abbrev below : ℕ → Option ℕ → Option ℕ
below n None = None
below n (Some place) = cond (nat_lt place n) (Some place) None

module _ {X : Type 0} (p : X → Bool) where
  -- the count begins at k
  from_start : (k : ℕ) (xs : List X) (place : ℕ) → position_from p k xs ≡ Some place → k ≤ place
  from_start k [] place e = absurd (none-some place e)
  from_start k (x ∷ xs) place e = choose (p x) e (λ q. from_start (k + 1) xs place q) where
    choose : (b : Bool) → cond b (Some k) (position_from p (k + 1) xs) ≡ Some place
        → (position_from p (k + 1) xs ≡ Some place → k + 1 ≤ place) → k ≤ place
    choose true q rest = let same : k ≡ place = same_Some k place q in omega arith
    choose false q rest = let more : k + 1 ≤ place = rest q in omega arith

  -- in none of the elements nothing passes
  of_none : (k : ℕ) (xs : List X) (o : Option ℕ) → position_from p k xs ≡ o
      → below (k + 0) o ≡ None
  of_none k xs None e = refl
  of_none k xs (Some place) e =
      let least : k ≤ place = from_start k xs place e in
      cond-false (nat_lt place (k + 0)) (Some place) None (le-ltb place (k + 0) (omega arith))

  -- the first element that passes, if it is one of the first n
  pub position-take : (k n : ℕ) (xs : List X) → position_from p k (take n xs)
      ≡ below (k + n) (position_from p k xs)
  position-take k zero xs = sym (of_none k xs (position_from p k xs) refl)
  position-take k (suc n) [] = refl
  position-take k (suc n) (x ∷ xs) = choose (p x) (position-take (k + 1) n xs) where
    choose : (b : Bool) → position_from p (k + 1) (take n xs)
        ≡ below (k + 1 + n) (position_from p (k + 1) xs)
        → cond b (Some k) (position_from p (k + 1) (take n xs))
        ≡ below (k + suc n) (cond b (Some k) (position_from p (k + 1) xs))
    choose true rest =
        sym (cond-true (nat_lt k (k + suc n)) (Some k) None (lt-ltb k (k + suc n) (omega arith)))
    choose false rest =
        let one : k + 1 + n ≡ k + suc n = omega arith in
        rest ∙ ap (λ (m : ℕ). below m (position_from p (k + 1) xs)) one

-- an element of a first part
get-take : {X : Type 0} (n : ℕ) (xs : List X) (k : ℕ) → k < n → slice_get (take n xs) k
    ≡ slice_get xs k
get-take zero xs k l = absurd (omega arith)
get-take (suc n) [] k l = refl
get-take (suc n) (x ∷ xs) zero l = refl
get-take (suc n) (x ∷ xs) (suc k) l = get-take n xs k (omega arith)

-- ---- the line

module _ (f : Family) (rules : List RuleValue) (n : ℕ) (a : Access) where
  -- the deciding line among the first rules, by that among all
  first_taken : (o : Option ℕ) → place_of_first f rules a ≡ o
      → place_of_first f (take n rules) a ≡ below (0 + n) o
  first_taken o e = position-take (decides f a) 0 n rules ∙ ap (below (0 + n)) e

  -- if no rule matches, no line asks
  pub asks_none : place_of_first f rules a ≡ None → asking_line f (take n rules) a ≡ None
  asks_none e = ap (if_asking (take n rules)) (first_taken None e)

  -- a line beyond the first rules doesn't ask
  pub asks_past : (line : ℕ) → place_of_first f rules a ≡ Some line → n ≤ line
      → asking_line f (take n rules) a ≡ None
  asks_past line e l =
      ap (if_asking (take n rules)) (first_taken (Some line) e
      ∙ cond-false (nat_lt line (0 + n)) (Some line) None (le-ltb line (0 + n) (omega arith)))

  -- a line among them asks if its rule does
  pub asks_within : (line : ℕ) → place_of_first f rules a ≡ Some line → line < n
      → asking_line f (take n rules) a ≡ cond (asks (slice_get rules line)) (Some line) None
  asks_within line e l =
      ap (if_asking (take n rules)) (first_taken (Some line) e
      ∙ cond-true (nat_lt line (0 + n)) (Some line) None (lt-ltb line (0 + n) (omega arith)))
      ∙ ap (λ (o : Option RuleValue). cond (asks o) (Some line) None) (get-take n rules line l)
