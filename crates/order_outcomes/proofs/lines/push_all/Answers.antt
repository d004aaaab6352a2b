use Rattle.std.proofs.Common.{◌++◌, List, ℕ, refl, ap, ◌∙◌}
use Rattle.std.specs.List.{concat}
use Rattle.order_outcomes.proofs.Walking.{text_end, text_more}
use Rattle.order_outcomes.proofs.lines.push_all.Goals as goal

pub loop-line-preserved : goal.loop-line-preserved
loop-line-preserved c =
    text_more concat (λ l. l) c.args.lines.now c.loop-line.line-index _ c.loop-line.out.items
    c.loop-line.invariant c.line-item.result _ (λ y ys. refl) c.loop-line-test.true c.line-item.is
    (c.in_ok-extend_from_slice.ensures.items
    ∙ ap (λ (l : List ℕ). c.loop-line.out.items ++ l) c.as_slice.ensures.bytes)

pub returns : goal.returns
returns c =
    text_end concat (λ l. l) c.args.lines.now c.loop-line.line-index _ c.loop-line.out.items
    c.loop-line.invariant refl c.loop-line-test.false
