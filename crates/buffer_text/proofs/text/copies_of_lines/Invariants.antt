-- There are copies of the buffers passed so far.
use Rattle.std.proofs.Common.{◌≡◌, take}
use Rattle.buffer_text.proofs.text.copies_of_lines.Given as goal

abbrev pub invariant-loop-line : goal.invariant-loop-line
invariant-loop-line l = l.copies.items ≡ take l.line-index l.lines
