use Rattle.view_drawing.proofs.inode.items_of.Goals as goal

pub returns : goal.returns
returns c = rw c.new-items.ensures.items at c.in_ok-push_items.ensures
