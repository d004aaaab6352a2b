use Rattle.std.proofs.Common.{◌≡◌, ℕ, ◌+◌, List, ◌++◌, length, ◌∙◌, ap, arith}
use Rattle.std.specs.List.{concat}
use Rattle.std.proofs.lemmas.List.{length_push}
use Rattle.inode_events.specs.pages.Content.{piece_at}
use Rattle.inode_pages.proofs.Pages.{concat_push}
use Rattle.order_sights.specs.Taken.{taken_more}
use Rattle.order_sights.proofs.taken.Taken.take_piece.Goals as goal

pub returns : goal.returns
returns c =
    let count : length c.push.new.self.items ≡ length c.self.inside.pages.items + 1 =
    ap (λ (l : List (List ℕ)). length l) c.in_ok-push.ensures.items
    ∙ length_push c.self.inside.pages.items c.in_ok-page.page in
    let number : c.len.result ≡ length c.self.inside.pages.items =
    omega (arith, c.len.ensures, c.self.inside.pages.ok.0) in
    let bytes : concat c.push.new.self.items ≡ concat c.self.inside.pages.items
    ++ piece_at c.args.content.now (length c.self.inside.pages.items) =
    ap concat c.in_ok-push.ensures.items
    ∙ concat_push c.self.inside.pages.items c.in_ok-page.page
    ∙ ap (λ (p : List ℕ). concat c.self.inside.pages.items ++ p)
    (c.in_ok-page.ensures ∙ ap (piece_at c.args.content.now) number) in
    (λ i. record { pieces = count i; bytes = bytes i })
    ∙ ap (taken_more c.args.content.now) c.self.view_is
