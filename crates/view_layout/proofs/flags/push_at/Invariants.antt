use Rattle.std.proofs.Common.{◌≡◌, ◌++◌, map, take}
use Rattle.view_layout.specs.Flags.{noted}
use Rattle.view_layout.proofs.flags.push_at.Given as goal

-- the notes so far have been appended
abbrev pub invariant-loop-note : goal.invariant-loop-note
invariant-loop-note l =
    l.noted.items ≡ l.fn.noted.items ++ map (noted l.x l.event) (take l.note-index l.notes)
