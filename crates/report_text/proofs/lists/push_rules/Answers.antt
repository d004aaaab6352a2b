use Rattle.std.proofs.Common.{ℕ, ◌+◌, ◌∷◌, ◌++◌, [], refl, sym, ap, ◌∙◌, arith}
use Rattle.std.proofs.lemmas.List.{append-nil}
use Rattle.report_text.specs.Report.{rule_line, rule_lines}
use Rattle.report_events.specs.Texts.{line_text}
use Rattle.report_events.proofs.Joins.{lines_on, lines_end}
use Rattle.report_text.proofs.lists.push_rules.Goals as goal

pub loop-place-preserved : goal.loop-place-preserved
loop-place-preserved c =
    let base = c.args.base in
    let e = c.index-rules-place.result in
    let k = c.loop-place.place in
    lines_on (λ n xs. rule_lines (base + n) xs) (λ n x. rule_line (base + n) x ∷ [])
    (λ n x xs. ap (λ (m : ℕ). rule_line (base + n) x ∷ rule_lines m xs) (omega arith)) _ _ _
    c.args.rules.now k e
    c.loop-place-test.true c.index-rules-place.is c.loop-place.invariant
    ((rw c.from.ensures at c.in_ok-push_rule.ensures)
    ∙ ap (λ l. c.loop-place.out.items ++ l) (sym (append-nil (line_text (rule_line (base + k) e)))))

pub returns : goal.returns
returns c =
    lines_end (λ n xs. rule_lines (c.args.base + n) xs) (λ k. refl) _ _ c.args.rules.now
    c.loop-place.place
    c.loop-place-test.false c.loop-place.invariant
