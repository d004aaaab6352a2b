use Rattle.std.proofs.Common.{[], ◌∷◌, ◌++◌, ap, ◌∙◌}
use Rattle.list_lemmas.proofs.Appending.{one_more}
use Rattle.view_journal.specs.declared.items.Item.{Item}
use Rattle.view_layout.specs.Drawing.{flag_items}
use Rattle.view_layout.proofs.Appended.{all_there, none_yet}
use Rattle.view_layout.proofs.NoItems.{no_flag}
use Rattle.view_layout.proofs.events.push_flag_items.Goals as goal

pub loop-flag-init : goal.loop-flag-init
loop-flag-init c = none_yet c.args.items.now.items flag_items c.args.flags.now

pub loop-flag-preserved : goal.loop-flag-preserved
loop-flag-preserved c =
    one_more c.args.items.now.items flag_items c.args.flags.now c.loop-flag.flag-index no_flag
    c.loop-flag-test.true c.loop-flag.invariant
    (c.in_ok-push.ensures
    ∙ ap (λ (x : Item). c.loop-flag.items.items ++ x ∷ []) c.flag_at.ensures)

pub returns : goal.returns
returns c =
    all_there c.args.items.now.items flag_items c.args.flags.now
    c.loop-flag.flag-index c.loop-flag-test.false c.loop-flag.invariant
