use Rattle.std.proofs.Common.{◌≡◌, ◌+◌, ◌≤◌, length}
use Rattle.report_text.specs.model.events.forms.Lines.{lines}
use Rattle.report_read.specs.Read.{read_from}
use Rattle.report_read.proofs.by_line.read_lines.Given as goal

-- the remaining lines make the same of the present draft as the text makes of the first, and the
-- next line begins at `offset`
abbrev pub invariant-loop-line : goal.invariant-loop-line
invariant-loop-line l = record {
  so_far : read_from l.offset l.number l.draft (lines l.rest)
      ≡ read_from 0 1 l.fn.start (lines l.text);
  place : l.offset + length l.rest ≡ length l.text;
  few : l.number + length l.rest ≤ length l.text + 1;
}

abbrev pub decreases-loop-line : goal.decreases-loop-line
decreases-loop-line l = length l.rest
