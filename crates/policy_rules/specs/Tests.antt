-- The tests of an access mask and of a user or group ID by a rule.
use Rattle.std.specs.Prelude.{ℕ, Bool, ◌==◌, nat_lt, if◌then◌else◌, bit_and}
use Rattle.policy_rules.specs.contracts.rule.FuncPartialEq.TheImpl as func_eq
use Rattle.policy_rules.specs.declared.rule.Func.{Func}
use Rattle.policy_rules.specs.declared.rule.IdTest.{IdTest}
use Rattle.policy_rules.specs.declared.rule.IdTest.TheVariants as id
use Rattle.policy_rules.specs.declared.rule.MaskTest.{MaskTest}

abbrev pub same_func : Func → Func → Bool
same_func = (func_eq.ghosts).eq

-- the access mask equals these bits, or only contains them if the test isn't exact
abbrev pub mask_holds : MaskTest → ℕ → Bool
mask_holds test mask = if test.exact then mask == test.bits else bit_and mask test.bits == test.bits

abbrev pub id_holds : IdTest → ℕ → Bool
id_holds (id.Is n) number = number == n
id_holds (id.Above n) number = nat_lt n number
id_holds (id.Below n) number = nat_lt number n
