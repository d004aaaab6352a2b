use Rattle.std.proofs.Common.{◌∙◌}
use Rattle.view_drawing.proofs.inode.pieces_of.Goals as goal

pub returns : goal.returns
returns c =
    rw (c.new-pieces.ensures.items, c.deref.ensures.value ∙ c.in_ok-items.ensures)
    at c.in_ok-push_drawn.ensures
