-- The callers of a journal, by number. The journal's own caller, number 0, adds the birth, and task
-- n is caller n + 1.
use Rattle.std.specs.Prelude.{ℕ, ◌+◌}
use Rattle.inode_events.specs.declared.deed.Deed.{Deed}
use Rattle.inode_events.specs.declared.deed.Deed.TheVariants as deed
use Rattle.inode_events.specs.declared.told.Event.{Event}

abbrev pub caller_in : ℕ → Deed → ℕ
caller_in task deed.Birth = 0
caller_in task _ = task + 1

-- the number of the caller that added the event
abbrev pub caller_of : Event → ℕ
caller_of e = caller_in e.who.task e.deed
