-- Creating a cell, and its values at the end.
use Rattle.std.specs.Prelude.{List}
use Rattle.grow_list.specs.Shown.{Passed}
use Rattle.inode_events.specs.declared.told.Event.{Event}
use Rattle.inode_state.specs.Value.{HasOthers}
use Rattle.inode_cell.specs.Value.{CellValue}

-- the passes are all of the journal's except its own, each once
abbrev pub HasPasses : CellValue → List (Passed Event) → Type 0
HasPasses c passes = HasOthers (record {
  inode = c.inode;
  name = c.journal;
  callers = c.callers;
  spare = c.spare;
  list = c.list;
}) passes
