-- The measurement list after a step.
use Rattle.std.specs.Prelude.{List, Option, Some, None}
use Rattle.ima_templates.specs.Same.{add}
use Rattle.ima_templates.specs.declared.entry.Entry.{Entry}

-- the list with `entry` added, if there is one
abbrev pub with_asked : List Entry → Option Entry → List Entry
with_asked list None = list
with_asked list (Some e) = add list e
