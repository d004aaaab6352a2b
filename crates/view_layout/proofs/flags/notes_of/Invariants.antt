use Rattle.std.proofs.Common.{◌≡◌, take}
use Rattle.std.specs.List.{flat_map}
use Rattle.view_layout.specs.Flags.{noted_at}
use Rattle.view_layout.proofs.flags.notes_of.Given as goal

-- the notes of the columns so far
abbrev pub invariant-loop-column : goal.invariant-loop-column
invariant-loop-column l = l.noted.items ≡ flat_map noted_at (take l.column-index l.columns)
