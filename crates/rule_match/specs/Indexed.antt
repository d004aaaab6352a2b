-- The invariant of an index of rules.
use Rattle.std.specs.Prelude.{◌≡◌}
use Rattle.rule_match.specs.declared.group.Group.{Group}
use Rattle.rule_match.specs.declared.index.Index.TheInside.{Inside}
use Rattle.rule_match.specs.Groups.{lines_from}
use Rattle.rule_match.specs.LineTable.{lines_at}

-- the table has, for each group, exactly the group's lines
pub record IsIndexed (i : Inside) : Type 0 where
  pub lines : (g : Group) → lines_at i.lines g ≡ lines_from g 0 i.rules.items
