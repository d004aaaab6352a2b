-- Rules that don't match don't affect the decision.
use Rattle.std.proofs.Common.{◌≡◌, ℕ, ◌&&◌, ◌==◌, Bool, true, false, Option, Some, None, refl, ◌⊎◌, inl, inr, ⊎_elim}
use Rattle.std.proofs.lemmas.Bool.{and_cases, and_left, and_right}
use Rattle.policy_rules.specs.RuleValue.{RuleValue, if_there}
use Rattle.policy_rules.specs.declared.access.Access.{Access}
use Rattle.policy_rules.specs.declared.rule.Func.{Func}
use Rattle.policy_rules.specs.Tests.{same_func}
use Rattle.rule_match.specs.Conditions.{rule_matches}
use Rattle.rule_match.specs.Group.{same_group}
use Rattle.rule_match.specs.Groups.{group_of, group_of_both, group_of_func, group_of_magic, group_of_neither}

true_of_and : (x : Bool) → (x && true) ≡ false → x ≡ false
true_of_and true is = is
true_of_and false is = refl

-- a rule in none of the four groups requires another function or another magic number
fails : (a : Access) (func : Option Func) (magic : Option ℕ)
    → same_group (record { func = func; magic = magic }) (group_of_both a) ≡ false
    → same_group (record { func = func; magic = magic }) (group_of_func a) ≡ false
    → same_group (record { func = func; magic = magic }) (group_of_magic a) ≡ false
    → same_group (record { func = func; magic = magic }) group_of_neither ≡ false
    → (if_there (λ f. same_func f a.func) func ≡ false)
    ⊎ (if_there (λ n. n == a.place.now.magic) magic ≡ false)
fails a None None both by_func by_magic neither = absurd cc
fails a None (Some m) both by_func by_magic neither = inr by_magic
fails a (Some f) None both by_func by_magic neither = inl (true_of_and _ by_func)
fails a (Some f) (Some m) both by_func by_magic neither = and_cases _ _ both

pub matches_not : (a : Access) (r : RuleValue)
    → same_group (group_of r) (group_of_both a) ≡ false → same_group (group_of r) (group_of_func a)
    ≡ false
    → same_group (group_of r) (group_of_magic a) ≡ false → same_group (group_of r) group_of_neither
    ≡ false
    → rule_matches r a ≡ false
matches_not a r both by_func by_magic neither =
    ⊎_elim
    (λ hook. and_left _ _ hook)
    (λ place. and_right _ _ (and_right _ _ (and_left _ _ place)))
    (fails a r.func r.fsmagic both by_func by_magic neither)
