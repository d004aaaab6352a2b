-- the lines of the entries so far
use Rattle.std.proofs.Common.{◌≡◌, ◌++◌, take}
use Rattle.std.specs.List.{flat_map}
use Rattle.list_format.specs.Line.{ascii_line}
use Rattle.report_text.proofs.lists.push_entries.Given as goal

abbrev pub invariant-loop-entry : goal.invariant-loop-entry
invariant-loop-entry l = l.out.items ≡ l.fn.out.items
    ++ flat_map ascii_line (take l.entry-index l.list)
