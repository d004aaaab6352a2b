use Rattle.std.proofs.Common.{◌∷◌, ◌++◌, [], get_or, refl, sym, ap, ◌∙◌}
use Rattle.std.proofs.lemmas.List.{append-nil}
use Rattle.report_text.specs.Numerals.{numeral}
use Rattle.report_text.specs.Texts.{line_text}
use Rattle.report_text.proofs.Joins.{lines_end, lines_on}
use Rattle.buffer_measure.specs.Print.{answer_lines, answer_words}
use Rattle.buffer_measure.specs.declared.answer.Answer.TheVariants.{Skipped}
use Rattle.buffer_measure.proofs.Printing.{by_default}
use Rattle.buffer_measure.proofs.output.push_answers.Goals as goal

pub loop-number-preserved : goal.loop-number-preserved
loop-number-preserved c =
    let k = c.loop-number.number in
    let a = get_or c.args.answers.now k Skipped in
    lines_on answer_lines (λ n x. (numeral n ∷ answer_words x) ∷ []) (λ n x xs. refl) _ _ _
    c.args.answers.now k a c.loop-number-test.true
    (by_default c.args.answers.now k Skipped a c.loop-number-test.true) c.loop-number.invariant
    (c.in_ok-push_line.ensures
    ∙ ap (λ l. c.loop-number.out.items ++ l)
    (sym (append-nil (line_text (numeral k ∷ answer_words a)))))

pub returns : goal.returns
returns c =
    lines_end answer_lines (λ k. refl) _ _ c.args.answers.now c.loop-number.number
    c.loop-number-test.false c.loop-number.invariant
