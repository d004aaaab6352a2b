use Rattle.std.proofs.Common.{List, ap, ◌∙◌}
use Rattle.std.proofs.lemmas.Result.{on_ok_weaker}
use Rattle.view_page.specs.journals.declared.window.Window.{Window}
use Rattle.view_page.specs.journals.reading.Report.{InodeValue}
use Rattle.view_page.specs.journals.reading.words.declared.event.Event.{Event}
use Rattle.view_pages.specs.Page.{inode_parts, windows_or}
use Rattle.view_page.proofs.Joined.{as_parts}
use Rattle.view_pages.proofs.page.push_inode_page.Goals as goal

pub returns : goal.returns
returns c =
    on_ok_weaker c.push_inode_in.result
    (λ pushed. as_parts pushed
    (ap (λ (ws : List Window). inode_parts c.args.text.now c.args.number c.args.inode.now ws)
    (c.deref-2.ensures.value ∙ (c.in_ok-windows.ensures
    ∙ ap (λ (es : List Event). windows_or c.args.range es)
    (c.deref.ensures.value ∙ ap (λ (i : InodeValue). i.events) c.inode.view_is)))))
    c.push_inode_in.ensures
