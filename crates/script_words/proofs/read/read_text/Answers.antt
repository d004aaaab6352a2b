use Rattle.std.proofs.Common.{sym, ◌∙◌, arith}
use Rattle.script_words.proofs.Reading.{goes_on, goes_over, stops}
use Rattle.script_words.proofs.read.read_text.Goals as goal
use Rattle.script_words.proofs.read.read_text.Goals.{then-not-is_skipped+in-Ok, else-not-is_skipped}

pub returns-in-Err : goal.returns-in-Err
returns-in-Err g c =
    rw c.at.ensures
    (stops g.T.Grammar.no_end g.T.Grammar.step g.T.Grammar.ends c.loop-line.number c.loop-line.state c.in-Some.line.now
    c.in-Some.after.now c.loop-line.rest.now _
    c.in-Some.ensures.parts c.loop-line.invariant.so_far c.in-Err.err (sym c.is_skipped.ensures
    ∙ c.if-not-is_skipped.true) c.in-Err.ensures)

pub loop-line-preserved : goal.loop-line-preserved
loop-line-preserved g c =
    record {
      so_far = elim c.if-not-is_skipped.branch [
        | then-not-is_skipped+in-Ok w ↦ rw w.state-is
            (goes_on g.T.Grammar.no_end g.T.Grammar.step g.T.Grammar.ends c.loop-line.number c.loop-line.state
            c.in-Some.line.now c.in-Some.after.now c.loop-line.rest.now _
            c.in-Some.ensures.parts c.loop-line.invariant.so_far w.add_line.new.self
            (sym c.is_skipped.ensures ∙ w.if-not-is_skipped.true) w.in-Ok.ensures)
        | else-not-is_skipped w ↦ rw w.state-is
            (goes_over g.T.Grammar.no_end g.T.Grammar.step g.T.Grammar.ends c.loop-line.number c.loop-line.state
            c.in-Some.line.now c.in-Some.after.now c.loop-line.rest.now _
            c.in-Some.ensures.parts c.loop-line.invariant.so_far (sym c.is_skipped.ensures
            ∙ w.if-not-is_skipped.false))
      ];
      few = omega (arith, c.in-Some.ensures.shorter);
    }
