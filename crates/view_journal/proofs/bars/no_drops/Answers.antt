use Rattle.std.proofs.Common.{ℕ, List, get_or, ap, ◌∙◌, arith}
use Rattle.view_journal.proofs.BarsSteps.{none_more}
use Rattle.view_journal.proofs.bars.no_drops.Goals as goal

pub loop-drops-preserved : goal.loop-drops-preserved
loop-drops-preserved c = record {
  few = omega arith;
  none = λ (f : ℕ).
      ap (λ (x : List ℕ). get_or x f 0) c.in_ok-push.ensures.items
      ∙ none_more c.loop-drops.drops.items c.loop-drops.invariant.none f;
}
