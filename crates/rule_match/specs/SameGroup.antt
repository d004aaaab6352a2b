-- Groups that compare as the same are equal, and so have the same hash.
use Rattle.std.proofs.Common.{◌≡◌, ℕ, Bool, true, Option, Some, None, ap, arith, nat_eq, refl, rules}
use Rattle.std.proofs.lemmas.Bool.Decides.{nat_tests}
use Rattle.std.specs.Cmp.{first_so, second_so}
use Rattle.std.specs.Option.{option_eq}
use Rattle.policy_rules.specs.contracts.rule.Func.{the_type}
use Rattle.rule_match.specs.Group.{group_writes, same_group}
use Rattle.rule_match.specs.declared.group.Group.{Group}
use denote.Enum.Bare.{same_true, sameb}

option_eq-true : {T : Type 0} (E : T → T → Bool) → ((x y : T) → E x y ≡ true → x ≡ y)
    → (o p : Option T) → option_eq E o p ≡ true → o ≡ p
option_eq-true E decides None None same = refl
option_eq-true E decides None (Some y) same = absurd cc
option_eq-true E decides (Some x) None same = absurd cc
option_eq-true E decides (Some x) (Some y) same = ap Some (decides x y same)

nat_eq-true : (m n : ℕ) → nat_eq m n ≡ true → m ≡ n
nat_eq-true m n same = grind (arith, nat_tests)

pub same_group-true : (g h : Group) → same_group g h ≡ true → g ≡ h
same_group-true g h same =
    let func : g.func ≡ h.func = option_eq-true (sameb the_type) (same_true the_type (search rules))
    g.func h.func (first_so _ _ same) in
    let magic : g.magic ≡ h.magic = option_eq-true nat_eq nat_eq-true g.magic h.magic
    (second_so _ _ same) in
    λ i. record { func = func i; magic = magic i }

pub same_group-hashed : (g h : Group) → same_group g h ≡ true → group_writes g ≡ group_writes h
same_group-hashed g h same = ap group_writes (same_group-true g h same)
