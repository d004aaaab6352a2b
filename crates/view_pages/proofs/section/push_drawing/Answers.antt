use Rattle.std.proofs.lemmas.Result.{on_ok_weaker}
use Rattle.view_drawing.specs.Drawing.{inode_pieces}
use Rattle.view_page.proofs.Drawings.{drew}
use Rattle.view_page.proofs.Joined.{◌▹◌}
use Rattle.view_pages.proofs.section.push_drawing.Goals as goal

pub returns : goal.returns
returns c =
    on_ok_weaker c.push_parts-2.result
    (λ pushed. c.in_ok-push_parts.ensures
    ▹ drew c.args.text.now c.push_parts.new.out.items c.push_inode.new.out.items
    (inode_pieces c.args.view c.args.journal.now c.args.windows.now c.args.differs.now)
    c.in_ok-push_inode.ensures
    ▹ pushed)
    c.push_parts-2.ensures
