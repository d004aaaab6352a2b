use Rattle.std.proofs.Common.{ℕ, List, ◌≡◌, subst}
use Rattle.std.specs.Prelude.{IfOk}
use Rattle.inode_pages.proofs.Pages.{page_is}
use Rattle.audit_trail.proofs.taken.page_at.Goals as goal

pub returns-in-Some : goal.returns-in-Some
returns-in-Some c =
    subst (λ (p : List ℕ). IfOk c.share.result (λ page. page ≡ p))
    (page_is c.args.content.now c.pages.result.now c.args.piece c.in-Some.page.now
    c.pages.ensures.pages c.in-Some.ensures.lookup.3.0 c.in-Some.ensures.lookup.1)
    c.share.ensures.bytes
