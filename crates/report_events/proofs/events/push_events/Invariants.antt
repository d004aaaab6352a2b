-- the lines of the events that are left are still to come
use Rattle.std.proofs.Common.{◌≡◌, ◌++◌, drop}
use Rattle.text_forms.specs.Words.{text_of}
use Rattle.report_events.specs.Words.{event_lines}
use Rattle.report_events.proofs.events.push_events.Given as goal

abbrev pub invariant-loop-place : goal.invariant-loop-place
invariant-loop-place l =
    l.out.items ++ text_of (event_lines l.default l.grows l.place (drop l.place l.events))
    ≡ l.fn.out.items ++ text_of (event_lines l.default l.grows 0 l.events)
