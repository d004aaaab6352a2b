use Rattle.std.proofs.Common.{codes}
use Rattle.report_text.proofs.Joins.{last_pushed}
use Rattle.kernel_read.proofs.Printing.{hook_pushed}
use Rattle.kernel_read.proofs.lines.push_hook.Goals as goal

pub returns : goal.returns
returns c =
    last_pushed c.extend_from_slice-5.result c.extend_from_slice-4.new.self.items (codes " ")
    c.extend_from_slice-5.new.self.items c.extend_from_slice-5.ensures.items
    (λ pushed. rw (
      pushed,
      c.in_ok-extend_from_slice-4.ensures.items,
      c.as_bytes.ensures.value,
      c.word.ensures,
      c.in_ok-extend_from_slice-3.ensures.items,
      c.in_ok-push_number-2.ensures,
      c.in_ok-extend_from_slice-2.ensures.items,
      c.in_ok-push_number.ensures,
      c.in_ok-extend_from_slice.ensures.items,
    )
    (hook_pushed c.args.out.now.items c.args.task c.args.call c.args.func))
