use Rattle.std.proofs.Common.{List, ◌++◌, refl, ap, ◌∙◌}
use Rattle.report_text.proofs.Joins.{lines_end, lines_on}
use Rattle.script_text.specs.events.forms.Words.{text_of}
use Rattle.buffer_measure.specs.Print.{all_caller_lines, caller_lines}
use Rattle.buffer_measure.specs.declared.answer.Answer.{Answer}
use Rattle.buffer_measure.proofs.output.push_callers.Goals as goal

pub loop-number-preserved : goal.loop-number-preserved
loop-number-preserved c =
    lines_on all_caller_lines caller_lines (λ n x xs. refl) _ _ _
    c.args.callers.now c.loop-number.number c.index-callers-number.result
    c.loop-number-test.true c.index-callers-number.is c.loop-number.invariant
    (c.in_ok-push_caller.ensures
    ∙ ap (λ (l : List Answer). c.loop-number.out.items
    ++ text_of (caller_lines c.loop-number.number l))
    c.as_slice.ensures)

pub returns : goal.returns
returns c =
    lines_end all_caller_lines (λ k. refl) _ _ c.args.callers.now
    c.loop-number.number c.loop-number-test.false c.loop-number.invariant
