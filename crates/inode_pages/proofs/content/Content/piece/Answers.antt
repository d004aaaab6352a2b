use Rattle.std.proofs.Common.{◌∙◌}
use Rattle.inode_pages.proofs.Pages.{found_page}
use Rattle.inode_pages.proofs.content.Content.piece.Goals as goal

pub returns-in-Some-clause-piece : goal.returns-in-Some-clause-piece
returns-in-Some-clause-piece c =
    c.as_slice.ensures.bytes
    ∙ found_page c.args.self.now c.self.inside.pages.items c.deref.result.now c.args.k
    c.in-Some.page.now c.self.view_is c.self.invariant c.deref.ensures.value
    c.in-Some.ensures.lookup.3.0 c.in-Some.ensures.lookup.1
