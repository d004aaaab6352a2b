use Rattle.std.proofs.Common.{ℕ, List, ◌∙◌, ap, subst, sym}
use Rattle.std.specs.List.{concat}
use Rattle.inode_pages.specs.Pages.{ArePagesOf}
use Rattle.inode_pages.proofs.content.Content.pages.Goals as goal

pub returns-clause-pages : goal.returns-clause-pages
returns-clause-pages c =
    subst (λ (ps : List (List ℕ)). ArePagesOf c.args.self.now ps) (sym c.as_slice.ensures.value)
    (subst (λ (b : List ℕ). ArePagesOf b c.self.inside.pages.items) c.self.view_is
    c.self.invariant.pages_are)

pub returns-clause-bytes : goal.returns-clause-bytes
returns-clause-bytes c = ap concat c.as_slice.ensures.value ∙ c.self.view_is
