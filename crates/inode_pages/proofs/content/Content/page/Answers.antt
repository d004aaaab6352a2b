use Rattle.std.proofs.Common.{◌≡◌, ℕ, List, subst}
use Rattle.std.specs.Prelude.{IfOk}
use Rattle.inode_pages.proofs.Pages.{found_page}
use Rattle.inode_pages.proofs.content.Content.page.Goals as goal

pub returns-in-Some : goal.returns-in-Some
returns-in-Some c = record {
  piece = subst (λ (b : List ℕ). IfOk c.share.result (λ page. page ≡ b))
      (found_page c.args.self.now c.self.inside.pages.items c.deref.result.now c.args.k
      c.in-Some.page.now c.self.view_is c.self.invariant c.deref.ensures.value
      c.in-Some.ensures.lookup.3.0 c.in-Some.ensures.lookup.1) c.share.ensures.bytes;
}
