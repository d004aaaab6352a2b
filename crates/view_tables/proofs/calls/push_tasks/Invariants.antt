use Rattle.std.proofs.Common.{◌≡◌, ◌++◌, drop}
use Rattle.view_tables.specs.Calls.{tasks_from}
use Rattle.view_page.specs.Parts.{page_of}
use Rattle.view_tables.proofs.calls.push_tasks.Given as goal

-- the tasks so far have been appended, and the others are left
abbrev pub invariant-loop-number : goal.invariant-loop-number
invariant-loop-number l =
    l.out.items
    ++ page_of l.text
    (tasks_from l.text l.side l.shown l.inodes l.number (drop l.number l.tasks))
    ≡ l.fn.out.items ++ page_of l.text (tasks_from l.text l.side l.shown l.inodes 0 l.tasks)
