use Rattle.std.proofs.Common.{ℕ, List, subst}
use Rattle.std.specs.Prelude.{All}
use Rattle.std.proofs.lemmas.List.{take_all}
use Rattle.std.proofs.lemmas.List.Elements.{All-more}
use Rattle.order_told.specs.Told.{IsThere}
use Rattle.order_told.proofs.told.are_there.Goals as goal

pub loop-place-preserved : goal.loop-place-preserved
loop-place-preserved c =
    All-more (IsThere c.args.list.now c.args.places.now c.args.other.now) c.args.others.now
    c.loop-place.place-index _ c.loop-place-test.true c.loop-place.invariant
    (c.is_there.ensures c.if-not-is_there.false)

pub returns : goal.returns
returns c = λ _.
    subst (λ (ps : List ℕ). All (IsThere c.args.list.now c.args.places.now c.args.other.now) ps)
    (take_all c.loop-place.place-index c.args.others.now c.loop-place-test.false)
    c.loop-place.invariant
