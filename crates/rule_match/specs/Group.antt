-- A group as a hash key: two groups are the same if both their parts are.
use Rattle.std.specs.Prelude.{ℕ, Bool, ◌++◌}
use Rattle.std.specs.Hash as fed
use Rattle.std.specs.Option.{option_map}
use Rattle.policy_rules.specs.contracts.rule.Func.{the_type}
use Rattle.policy_rules.specs.declared.rule.Func.{Func}
use Rattle.rule_match.specs.declared.group.Group.{Group}
use Rattle.rule_match.specs.contracts.group.GroupPartialEq.TheImpl as group_eq
use denote.Enum.Declared.{tag_of}

abbrev pub same_group : Group → Group → Bool
same_group = (group_eq.ghosts).eq

abbrev pub func_number : Func → ℕ
func_number f = tag_of the_type f

-- the data that `hash` writes: the number of the function, and the magic number
abbrev pub group_writes : Group → fed.HashWrites
group_writes g = fed.option fed.u8 (option_map func_number g.func) ++ fed.option fed.u64 g.magic
