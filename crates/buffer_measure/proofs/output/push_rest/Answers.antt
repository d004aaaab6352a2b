use Rattle.report_text.specs.Report.{pcr_lines}
use Rattle.buffer_measure.specs.Print.{all_caller_lines}
use Rattle.buffer_measure.proofs.Printing.{rest_pushed}
use Rattle.buffer_measure.proofs.output.push_rest.Goals as goal

pub returns : goal.returns
returns c =
    rw (
      c.in_ok-extend_from_slice.ensures.items,
      c.in_ok-push_callers.ensures,
      c.in_ok-push_registers.ensures,
    )
    (rest_pushed c.args.out.now.items (pcr_lines c.args.list.now c.args.banks.now)
    (all_caller_lines 0 c.args.callers.now))
