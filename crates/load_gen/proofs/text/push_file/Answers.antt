use Rattle.std.proofs.Common.{append_assoc}
use Rattle.load_gen.proofs.text.push_file.Goals as goal

pub returns : goal.returns
returns c =
    rw (
      c.in_ok-extend_from_slice.ensures.items,
      c.in_ok-append_hex.ensures.ok,
      c.in-Ok.ensures.bytes,
      c.from.ensures,
    ) (simp append_assoc)
