use Rattle.buffer_measure.proofs.Printing.{head_pushed}
use Rattle.buffer_measure.proofs.output.push_head.Goals as goal

pub returns : goal.returns
returns c =
    rw (
      c.in_ok-extend_from_slice-2.ensures.items,
      c.in_ok-push_numbers.ensures,
      c.in_ok-extend_from_slice.ensures.items,
    )
    (head_pushed c.args.out.now.items c.args.entries)
