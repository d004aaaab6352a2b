-- The page is that of the inode that was found.
use Rattle.std.proofs.Common.{◌≡◌, ◌++◌, ℕ, List, Option, ap, sym, subst, ◌∙◌}
use Rattle.view_pages.specs.Page.{inode_page_parts}
use Rattle.view_pages.specs.drawn.page.Parts.{page_of}
use Rattle.view_pages.specs.journals.reading.Report.{InodeValue}
use Rattle.view_top.specs.Answer.{Page, drawn_by}
use Rattle.view_top.proofs.answer.inode_page.Goals as goal

pub returns-in_ok-push_inode_page-in-Some : goal.returns-in_ok-push_inode_page-in-Some
returns-in_ok-push_inode_page-in-Some c =
    let text = c.args.text.now in
    let range = c.args.asked.range in
    let found = c.in-Some.inode.now in
    let items = c.push_inode_page.new.out.items in
    let by : ℕ → InodeValue → List ℕ =
    λ (n : ℕ) (i : InodeValue). page_of text (inode_page_parts text n i range) in
    let is : items ≡ by c.args.asked.inode found =
    c.in_ok-push_inode_page-in-Some.ensures.is
    ∙ ap (λ (out : List ℕ). out ++ by c.from-number.result found) c.new-out.ensures.items
    ∙ ap (λ (n : ℕ). by n found) c.from-number.ensures in
    subst (λ (o : Option InodeValue). drawn_by (by c.args.asked.inode) o ≡ Page items)
    c.in-Some.ensures.inode (ap (λ (l : List ℕ). Page l) (sym is))
