use Rattle.buffer_measure.proofs.Printing.{line_pushed}
use Rattle.buffer_measure.proofs.output.push_line.Goals as goal

pub returns : goal.returns
returns c =
    rw (
      c.in_ok-extend_from_slice-2.ensures.items,
      c.in_ok-push_answer.ensures,
      c.in_ok-extend_from_slice.ensures.items,
      c.in_ok-push_number.ensures,
    )
    (line_pushed c.args.out.now.items c.args.number c.args.answer.now)
