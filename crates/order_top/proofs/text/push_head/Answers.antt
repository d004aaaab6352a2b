use Rattle.std.proofs.Common.{append_assoc}
use Rattle.order_top.proofs.text.push_head.Goals as goal

pub returns : goal.returns
returns c =
    rw (
      c.in_ok-extend_from_slice-3.ensures.items,
      c.in_ok-push_number.ensures,
      c.in_ok-extend_from_slice-2.ensures.items,
      c.in_ok-push_count.ensures,
      c.in_ok-extend_from_slice.ensures.items,
      c.requires,
    )
    (simp append_assoc)
