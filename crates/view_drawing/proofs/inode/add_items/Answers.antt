use Rattle.std.proofs.Common.{List, ◌++◌, append-nil, sym, ap, ◌∙◌}
use Rattle.std.proofs.lemmas.List.{take_all}
use Rattle.list_lemmas.proofs.Appending.{one_more}
use Rattle.view_page.specs.journals.declared.items.Item.{Item}
use Rattle.view_page.specs.journals.declared.items.Item.TheVariants as item
use Rattle.view_page.specs.journals.declared.items.Look.TheVariants as look
use Rattle.view_drawing.specs.Drawing.{item_pieces, items_pieces}
use Rattle.view_drawing.proofs.inode.add_items.Goals as goal

abbrev no_item : Item
no_item = item.Block look.Lane (record { x = 0; y = 0; width = 0; height = 0 })

pub loop-item-init : goal.loop-item-init
loop-item-init c = sym (append-nil c.args.out.now.items)

pub loop-item-preserved : goal.loop-item-preserved
loop-item-preserved c =
    one_more c.args.out.now.items (item_pieces c.args.view) c.args.items.now
    c.loop-item.item-index no_item c.loop-item-test.true c.loop-item.invariant
    c.in_ok-push_item.ensures

pub returns : goal.returns
returns c =
    c.loop-item.invariant
    ∙ ap (λ (items : List Item). c.args.out.now.items ++ items_pieces c.args.view items)
    (take_all c.loop-item.item-index c.args.items.now c.loop-item-test.false)
