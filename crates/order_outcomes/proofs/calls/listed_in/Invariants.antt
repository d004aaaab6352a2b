-- the content after the events so far, and whether the call has read what was listed
use Rattle.std.proofs.Common.{◌≡◌, take}
use Rattle.report_text.specs.model.events.NewestFirst.{newest_first}
use Rattle.report_text.specs.model.events.State.{content}
use Rattle.order_outcomes.specs.Calls.{listed_in}
use Rattle.order_outcomes.proofs.calls.listed_in.Given as goal

abbrev pub invariant-loop-place : goal.invariant-loop-place
invariant-loop-place l = record {
  content : l.content ≡ content (newest_first (take l.place l.journal));
  listed : l.listed ≡ listed_in l.list l.task l.call (newest_first (take l.place l.journal));
}
