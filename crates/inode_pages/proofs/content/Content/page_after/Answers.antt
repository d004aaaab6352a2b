use Rattle.std.proofs.Common.{◌≡◌, ◌-◌, ◌*◌, ◌∙◌, sym, min, arith}
use Rattle.inode_pages.specs.Content.{bytes_at, overwritten}
use Rattle.inode_pages.proofs.Writes.{bytes_at-written}
use Rattle.inode_pages.proofs.content.Content.page_after.Goals as goal

pub returns : goal.returns
returns c =
    let from = c.args.from in
    let start = 4096 * c.args.k in
    let at : c.min.result ≡ min (c.args.from - 4096 * c.args.k) 4096 = omega arith in
    let before : c.saturating_sub.result ≡ 4096 * c.args.k - c.args.from = omega arith in
    let room : c.saturating_sub-2.result ≡ 4096 - (c.args.from - 4096 * c.args.k) = omega arith in
    c.in_ok-page.ensures
    ∙ (λ i. overwritten (c.piece.ensures.piece i) (at i)
    ((c.bytes_at-part.ensures ∙ (λ j. bytes_at c.args.b.now (before j) (room j))) i))
    ∙ sym (bytes_at-written c.args.self.now c.args.from c.args.b.now (4096 * c.args.k) 4096)
