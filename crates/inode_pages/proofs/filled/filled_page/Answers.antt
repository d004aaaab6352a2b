use Rattle.std.proofs.Common.{◌≡◌, ◌-◌, ◌*◌, ap, length, min, arith}
use Rattle.inode_pages.proofs.Filling.{filled_piece, first_again}
use Rattle.inode_pages.proofs.filled.filled_page.Goals as goal

pub returns-then-len-full : goal.returns-then-len-full
returns-then-len-full c =
    let size : c.min-len.result ≡ min (c.args.count - 4096 * c.args.k) 4096 = omega arith in
    first_again c.in_ok-again.again c.args.first.now c.args.count c.args.byte c.args.k
    c.min-len.result c.in_ok-again.ensures.bytes c.requires.first
    (omega (arith, ap length c.as_slice-full.ensures.bytes)) size

pub returns : goal.returns
returns c =
    let size : c.min-len.result ≡ min (c.args.count - 4096 * c.args.k) 4096 = omega arith in
    filled_piece c.in_ok-page.page c.args.count c.args.byte c.args.k c.min-len.result
    c.in_ok-page.ensures.bytes size
