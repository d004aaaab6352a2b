use Rattle.report_events.proofs.Checks.{check_pushed}
use Rattle.report_events.proofs.Joins.{when_ok}
use Rattle.report_events.proofs.deeds.push_check.Goals as goal

pub returns : goal.returns
returns c = when_ok c.push_acts.result c.push_acts.ensures
    (λ pushed. rw (
      pushed,
      c.in_ok-push_rules.ensures,
      c.in_ok-extend_from_slice-2.ensures.items,
      c.in_ok-extend_from_slice.ensures.items,
      c.in_ok-push_numbered.ensures,
      c.as_bytes.ensures.value,
    )
    (check_pushed c.args.out.now.items c.word.result.now c.args.default c.args.grows c.args.file
    c.args.func c.args.action.now c.args.rules c.word.ensures))
