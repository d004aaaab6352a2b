use Rattle.std.proofs.Common.{refl, sym, subst, ◌∙◌, List}
use Rattle.inode_events.specs.declared.told.Event.{Event}
use Rattle.inode_events.specs.policy.declared.rule.Func.TheVariants as func
use Rattle.order_sights.specs.Files.{IsSeen}
use Rattle.order_sights.proofs.Seeing.{seen_next, seen_none}
use Rattle.order_told.proofs.Walks.{past_all}
use Rattle.order_sights.proofs.files.file_seen.Goals as goal

pub loop-place-init : goal.loop-place-init
loop-place-init c =
    seen_none c.args.file _ refl
    (λ i. record { func = func.FileCheck; action = c.none.ensures i })

pub loop-place-preserved : goal.loop-place-preserved
loop-place-preserved c =
    seen_next c.args.journal.now c.loop-place.place c.args.file c.index-journal-place.result
    c.loop-place.seen c.seen_after-seen.result c.loop-place-test.true c.index-journal-place.is
    (sym c.drops.ensures ∙ c.if-drops.false) c.loop-place.invariant
    c.seen_after-seen.ensures.how c.seen_after-seen.ensures.check

pub returns : goal.returns
returns c =
    subst (λ (p : List Event). IsSeen c.args.file p c.loop-place.seen)
    (past_all c.args.journal.now c.loop-place.place c.loop-place-test.false) c.loop-place.invariant
