use Rattle.std.proofs.Common.{◌≡◌, ◌+◌, ◌≤◌, length}
use Rattle.text_forms.specs.Lines.{lines}
use Rattle.script_words.specs.Read.{from_by, text_by}
use Rattle.script_words.proofs.read.read_text.Given as goal

-- the remaining lines make the same of the current state as the text makes of the first
abbrev pub invariant-loop-line : goal.invariant-loop-line
invariant-loop-line g l = record {
  so_far : from_by g.T.Grammar.no_end g.T.Grammar.step g.T.Grammar.ends l.number l.state (lines l.rest)
      ≡ text_by g.T.Grammar.no_end g.T.Grammar.step g.T.Grammar.ends l.fn.start l.text;
  few : l.number + length l.rest ≤ length l.text + 1;
}

abbrev pub decreases-loop-line : goal.decreases-loop-line
decreases-loop-line g l = length l.rest
