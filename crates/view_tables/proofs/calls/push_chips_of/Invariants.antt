use Rattle.std.proofs.Common.{◌≡◌, ◌++◌, drop}
use Rattle.view_tables.specs.Calls.{chips_from}
use Rattle.view_page.specs.Parts.{page_of}
use Rattle.view_tables.proofs.calls.push_chips_of.Given as goal

-- the calls so far have been appended, and the others are left
abbrev pub invariant-loop-call : goal.invariant-loop-call
invariant-loop-call l =
    l.out.items
    ++ page_of l.text
    (chips_from l.text l.side l.shown l.inodes l.firsts l.marks l.call (drop l.call l.replies))
    ≡ l.fn.out.items
    ++ page_of l.text (chips_from l.text l.side l.shown l.inodes l.firsts 0 0 l.replies)
