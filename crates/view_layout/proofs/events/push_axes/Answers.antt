use Rattle.std.proofs.Common.{[], ◌∷◌, ◌++◌, ap, ◌∙◌}
use Rattle.list_lemmas.proofs.Appending.{one_more}
use Rattle.view_journal.specs.declared.items.Item.{Item}
use Rattle.view_layout.specs.Drawing.{axis_items}
use Rattle.view_layout.proofs.Appended.{all_there, none_yet}
use Rattle.view_lanes.proofs.NoItems.{no_column}
use Rattle.view_layout.proofs.events.push_axes.Goals as goal

pub loop-column-init : goal.loop-column-init
loop-column-init c = none_yet c.args.items.now.items (axis_items c.args.bottom) c.args.columns.now

pub loop-column-preserved : goal.loop-column-preserved
loop-column-preserved c =
    one_more c.args.items.now.items (axis_items c.args.bottom) c.args.columns.now
    c.loop-column.column-index no_column c.loop-column-test.true c.loop-column.invariant
    (c.in_ok-push.ensures
    ∙ ap (λ (x : Item). c.loop-column.items.items ++ x ∷ []) c.axis_at.ensures)

pub returns : goal.returns
returns c =
    all_there c.args.items.now.items (axis_items c.args.bottom) c.args.columns.now
    c.loop-column.column-index c.loop-column-test.false c.loop-column.invariant
