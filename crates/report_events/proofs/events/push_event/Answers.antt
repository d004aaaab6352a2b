use Rattle.std.proofs.Common.{codes}
use Rattle.report_events.proofs.Joins.{event_pushed, last_pushed}
use Rattle.report_events.proofs.events.push_event.Goals as goal

pub returns : goal.returns
returns c =
    let e = c.args.event.now in
    last_pushed c.extend_from_slice-4.result c.push_told.new.out.items (codes "\n")
    c.extend_from_slice-4.new.self.items c.extend_from_slice-4.ensures.items
    (λ pushed. rw (
      pushed,
      c.in_ok-push_told.ensures,
      c.in_ok-extend_from_slice-3.ensures.items,
      c.in_ok-push_deed.ensures.text,
      c.in_ok-extend_from_slice-2.ensures.items,
      c.in_ok-push_who.ensures,
      c.in_ok-extend_from_slice.ensures.items,
      c.in_ok-push_number.ensures,
    )
    (event_pushed c.args.out.now.items c.args.default c.args.grows c.args.place e.who e.deed e.told
    c.in_default.not-Birth))
