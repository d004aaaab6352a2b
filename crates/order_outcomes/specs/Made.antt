-- How much a run has made: the number of the inodes' events, and the number of replies.
use Rattle.std.specs.Prelude.{ℕ, List, length, sum_by}
use Rattle.report_text.specs.model.EndedValue.{EndedTaskValue, EndedValue}
use Rattle.report_text.specs.model.events.EndedInode.{EndedInodeValue}
use Rattle.order_outcomes.specs.declared.made.Made.{Made}

abbrev pub events_in : List EndedInodeValue → ℕ
events_in inodes = sum_by (λ (i : EndedInodeValue). length i.journal) inodes

abbrev pub replies_in : List EndedTaskValue → ℕ
replies_in tasks = sum_by (λ (t : EndedTaskValue). length t.replies) tasks

abbrev pub made_of : EndedValue → Made
made_of e = record { events = events_in e.inodes; replies = replies_in e.tasks }
