use Rattle.std.proofs.Common.{codes}
use Rattle.report_text.proofs.Joins.{last_pushed}
use Rattle.kernel_read.proofs.Printing.{load_pushed}
use Rattle.kernel_read.proofs.lines.push_load.Goals as goal

pub returns : goal.returns
returns c =
    last_pushed c.extend_from_slice-4.result c.push_reply.new.out.items (codes "\n")
    c.extend_from_slice-4.new.self.items c.extend_from_slice-4.ensures.items
    (λ pushed. rw (
      pushed,
      c.in_ok-push_reply.ensures,
      c.in_ok-extend_from_slice-3.ensures.items,
      c.in_ok-push_place.ensures,
      c.in_ok-extend_from_slice-2.ensures.items,
      c.in_ok-extend_from_slice.ensures.items,
      c.in_ok-push_hook.ensures,
    )
    (load_pushed c.args.out.now.items c.args.task c.args.call c.args.func c.args.path.now
    c.args.placed c.args.reply.now))
