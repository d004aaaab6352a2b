use Rattle.std.proofs.Common.{◌≡◌, List, [], ◌∷◌, ◌++◌, get_or, length, sym, ap, ◌∙◌}
use Rattle.std.proofs.lemmas.List.{length-map, map_more, take_all}
use Rattle.view_journal.specs.declared.bars.Bar.{Bar}
use Rattle.view_journal.specs.declared.frame.Extent.{Extent}
use Rattle.view_journal.specs.Bars.{extent_of, extents}
use Rattle.view_journal.proofs.OwnBars.{no_bar}
use Rattle.view_journal.proofs.bars.extents.Goals as goal

pub loop-bar-init : goal.loop-bar-init
loop-bar-init c = c.new-extents.ensures.items

pub loop-bar-preserved : goal.loop-bar-preserved
loop-bar-preserved c =
    let b : Bar = get_or c.args.bars.now c.loop-bar.bar-index no_bar in
    (rw (c.from.ensures, c.from-in-loop-bar.ensures) at c.in_ok-push.ensures.items)
    ∙ (ap (λ (x : List Extent). x ++ extent_of b ∷ []) c.loop-bar.invariant
    ∙ sym (map_more extent_of c.args.bars.now c.loop-bar.bar-index no_bar c.loop-bar-test.true))

pub returns-clause-is : goal.returns-clause-is
returns-clause-is c =
    c.loop-bar.invariant
    ∙ ap extents (take_all c.loop-bar.bar-index c.args.bars.now c.loop-bar-test.false)

pub returns-clause-each : goal.returns-clause-each
returns-clause-each c =
    let all : c.loop-bar.extents.items ≡ extents c.args.bars.now
    = c.loop-bar.invariant
    ∙ ap extents (take_all c.loop-bar.bar-index c.args.bars.now c.loop-bar-test.false) in
    ap length all ∙ length-map c.args.bars.now extent_of
