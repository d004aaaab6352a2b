use Rattle.std.proofs.Common.{[], List, ℕ, take, sym, ap, ◌∙◌}
use Rattle.std.proofs.lemmas.List.{take_all}
use Rattle.std.proofs.lemmas.List.Sums.{fold_more}
use Rattle.order_outcomes.specs.Outcome.{lines_of, with_line}
use Rattle.order_outcomes.proofs.lines.lines_of.Goals as goal

pub loop-entry-preserved : goal.loop-entry-preserved
loop-entry-preserved c =
    let k = c.loop-entry.entry-index in
    let list = c.args.list.now in
    let kind = c.args.kind in
    let e = c.entry-item.result in
    c.in_ok-add_line.ensures
    ∙ ap (λ (lines : List (List ℕ)). with_line kind lines e) c.loop-entry.invariant
    ∙ sym (fold_more (with_line kind) [] list k e c.loop-entry-test.true
    ∙ ap (with_line kind (lines_of kind (take k list))) (sym c.entry-item.is))

pub returns : goal.returns
returns c =
    c.loop-entry.invariant
    ∙ ap (lines_of c.args.kind)
    (take_all c.loop-entry.entry-index c.args.list.now c.loop-entry-test.false)
