use Rattle.std.proofs.Common.{◌∷◌, ◌++◌, [], refl, sym, ap, ◌∙◌}
use Rattle.report_events.specs.Numerals.{numeral}
use Rattle.std.proofs.lemmas.List.{append-nil}
use Rattle.report_text.specs.Report.{reply_lines, reply_words}
use Rattle.report_events.specs.Texts.{line_text}
use Rattle.report_events.proofs.Joins.{lines_on, lines_end}
use Rattle.report_text.proofs.tasks.push_replies.Goals as goal

pub loop-call-preserved : goal.loop-call-preserved
loop-call-preserved c =
    let r = c.index-replies-call.result in
    let k = c.loop-call.call in
    lines_on reply_lines (λ n x. (numeral n ∷ reply_words x) ∷ []) (λ n x xs. refl) _ _ _
    c.args.replies.now k r
    c.loop-call-test.true c.index-replies-call.is c.loop-call.invariant
    (c.in_ok-push_answer.ensures
    ∙ ap (λ l. c.loop-call.out.items ++ l)
    (sym (append-nil (line_text (numeral k ∷ reply_words r)))))

pub returns : goal.returns
returns c =
    lines_end reply_lines (λ k. refl) _ _ c.args.replies.now c.loop-call.call c.loop-call-test.false
    c.loop-call.invariant
