-- The lines that the table holds for each group.
use Rattle.std.specs.Prelude.{ℕ, List, [], Option, Some, None}
use Rattle.std.specs.declared.hash.FoldHasher.{FoldHasher}
use Rattle.std.specs.declared.hash.BuildHasherDefault.{BuildHasherDefault}
use Rattle.std.specs.HashMap as hash
use Rattle.std.specs.Global.{Vec}
use Rattle.rule_match.specs.declared.group.Group.{Group}
use Rattle.rule_match.specs.Group.{same_group}

abbrev pub LineTable : Type 0
LineTable = hash.HashMap Group (Vec ℕ) (BuildHasherDefault FoldHasher)

abbrev pub lines_in : Option (Vec ℕ) → List ℕ
lines_in None = []
lines_in (Some lines) = lines.items

-- the lines of the group, none if the table doesn't have it
abbrev pub lines_at : LineTable → Group → List ℕ
lines_at table g = lines_in (hash.get same_group table g)
