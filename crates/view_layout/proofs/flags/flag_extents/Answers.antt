use Rattle.std.proofs.Common.{◌≡◌, [], length, ap, ◌∙◌}
use Rattle.std.proofs.lemmas.List.{length-map}
use Rattle.list_lemmas.proofs.Appending.{one_each}
use Rattle.view_layout.specs.Flags.{flag_extent, flag_extents}
use Rattle.view_layout.proofs.Appended.{each_there}
use Rattle.view_layout.proofs.NoItems.{no_noted}
use Rattle.view_layout.proofs.flags.flag_extents.Goals as goal

pub loop-flag-init : goal.loop-flag-init
loop-flag-init c = c.new-extents.ensures.items

pub loop-flag-preserved : goal.loop-flag-preserved
loop-flag-preserved c =
    one_each [] flag_extent c.args.noted.now c.loop-flag.flag-index no_noted
    c.loop-flag-test.true c.loop-flag.invariant
    (rw (c.from-from.ensures, c.flag_width.ensures.is) at c.in_ok-push.ensures.items)

pub returns-clause-is : goal.returns-clause-is
returns-clause-is c =
    each_there [] flag_extent c.args.noted.now c.loop-flag.flag-index c.loop-flag-test.false
    c.loop-flag.invariant

pub returns-clause-each : goal.returns-clause-each
returns-clause-each c =
    let all : c.loop-flag.extents.items ≡ flag_extents c.args.noted.now
    = each_there [] flag_extent c.args.noted.now c.loop-flag.flag-index c.loop-flag-test.false
    c.loop-flag.invariant in
    ap length all ∙ length-map c.args.noted.now flag_extent
