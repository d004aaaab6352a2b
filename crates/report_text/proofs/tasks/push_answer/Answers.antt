use Rattle.std.proofs.Common.{codes}
use Rattle.report_text.proofs.Pushed.{answer_pushed}
use Rattle.report_events.proofs.Joins.{last_pushed}
use Rattle.report_text.proofs.tasks.push_answer.Goals as goal

pub returns : goal.returns
returns c =
    last_pushed c.extend_from_slice-2.result c.push_reply.new.out.items (codes "\n")
    c.extend_from_slice-2.new.self.items c.extend_from_slice-2.ensures.items
    (λ pushed. rw (
      pushed,
      c.in_ok-push_reply.ensures,
      c.in_ok-extend_from_slice.ensures.items,
      c.in_ok-push_number.ensures,
    )
    (answer_pushed c.args.out.now.items c.args.call c.args.reply.now))
