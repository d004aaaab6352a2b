-- The invariant of the fields of a policy cell.
use Rattle.std.specs.Prelude.{◌≡◌, ◌≤◌, take, drop, length}
use Rattle.policy_cell.specs.Policy.{PolicyValue, rules_in}
use Rattle.policy_cell.specs.declared.cell.PolicyCell.TheInside.{Inside}

abbrev pub policy_of : Inside → PolicyValue
policy_of p = record { base = take p.base p.index; appended = p.appended }

-- the index has the initial rules, followed by the appended ones
pub record IsPolicy (p : Inside) : Type 0 where
  pub base : p.base ≤ length p.index
  pub appended : drop p.base p.index ≡ rules_in p.appended.list
