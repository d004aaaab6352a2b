use Rattle.std.proofs.Common.{List, subst}
use Rattle.std.specs.Prelude.{All}
use Rattle.std.proofs.lemmas.List.{take_all}
use Rattle.std.proofs.lemmas.List.Elements.{All-more}
use Rattle.order_sights.specs.Inodes.{FitsIfThere}
use Rattle.order_sights.specs.declared.pairs.Pair.{Pair}
use Rattle.order_sights.proofs.inodes.are_pairs_fit.Goals as goal

pub loop-pair-preserved : goal.loop-pair-preserved
loop-pair-preserved c =
    All-more (FitsIfThere c.args.inode c.args.a.now c.args.b.now) c.args.pairs.now
    c.loop-pair.pair-index _ c.loop-pair-test.true c.loop-pair.invariant
    (c.fits_if_there.ensures c.if-not-fits_if_there.false)

pub returns : goal.returns
returns c = λ _.
    subst (λ (ps : List Pair). All (FitsIfThere c.args.inode c.args.a.now c.args.b.now) ps)
    (take_all c.loop-pair.pair-index c.args.pairs.now c.loop-pair-test.false)
    c.loop-pair.invariant
