use Rattle.std.proofs.Common.{◌≡◌, ◌++◌, drop}
use Rattle.view_tables.specs.Entries.{rows_from}
use Rattle.view_page.specs.Parts.{page_of}
use Rattle.view_tables.proofs.entries.push_rows.Given as goal

-- the rows so far have been appended, and the others are left
abbrev pub invariant-loop-place : goal.invariant-loop-place
invariant-loop-place l =
    l.out.items
    ++ page_of l.text
    (rows_from l.text l.side l.shown l.added l.marks l.place (drop l.place l.lines))
    ≡ l.fn.out.items ++ page_of l.text (rows_from l.text l.side l.shown l.added 0 0 l.lines)
