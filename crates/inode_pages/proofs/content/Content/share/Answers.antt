use Rattle.std.proofs.Common.{◌∙◌, ap, subst, sym}
use Rattle.std.specs.List.{concat}
use Rattle.inode_pages.specs.Pages.{IsPaged}
use Rattle.inode_pages.proofs.content.Content.share.Goals as goal

pub invariant_of-content : goal.invariant_of-content
invariant_of-content c =
    subst IsPaged (sym (c.in_ok-pages.ensures ∙ c.as_slice.ensures.value)) c.self.invariant

pub returns : goal.returns
returns c = ap concat (c.in_ok-pages.ensures ∙ c.as_slice.ensures.value) ∙ c.self.view_is
