use Rattle.std.proofs.Common.{ℕ, ◌-◌, List, sym, subst, ◌∙◌, arith}
use Rattle.view_journal.specs.Bars.{IsWalked}
use Rattle.view_journal.proofs.BarsSteps.{slots_kept, walked_start}
use Rattle.view_journal.proofs.bars.shown_bars.Goals as goal

pub loop-place-init : goal.loop-place-init
loop-place-init c = record {
  within = omega arith;
  few = omega arith;
  walked = walked_start c.args.windows.now c.args.journal.now _ _ c.in_ok-drops.ensures.each
      c.in_ok-drops.ensures.none c.new-bars.ensures.items;
}

pub loop-place-preserved : goal.loop-place-preserved
loop-place-preserved c =
    let walked = c.in_ok-step.ensures.walked in
    record {
      within = omega (arith, c.loop-place.invariant.within);
      few = c.in_ok-step.ensures.few;
      walked = subst (λ (drops : List ℕ). IsWalked c.args.windows.now c.args.journal.now
          (c.loop-place.place - 1) drops c.step.new.bars.items)
          (sym (slots_kept c.loop-place.drops.items c.step.new.drops c.loop-place.drops.len
          (walked.as_many ∙ sym c.loop-place.invariant.walked.as_many) (omega arith)))
          walked;
    }
