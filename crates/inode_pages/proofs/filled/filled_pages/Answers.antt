use Rattle.std.proofs.Common.{◌≡◌, length, sym, ap, ◌∙◌, arith}
use Rattle.std.specs.Int.{div_ceil}
use Rattle.std.specs.Prelude.{replicate, vec_len}
use Rattle.inode_pages.specs.Content.{piece_at}
use Rattle.inode_pages.proofs.Filling.{paged_filled}
use Rattle.inode_pages.proofs.Lookups.{get-push}
use Rattle.inode_pages.proofs.filled.filled_pages.Goals as goal

pub returns-clause-paged : goal.returns-clause-paged
returns-clause-paged c =
    let number : length c.loop-k.pages.items ≡ div_ceil c.args.count 4096 =
    omega (arith, c.loop-k.invariant.count) in
    (paged_filled c.loop-k.pages.items c.args.count c.args.byte c.requires number
    (λ k below. c.loop-k.invariant.each k (omega (arith, below)))).0

pub returns-clause-bytes : goal.returns-clause-bytes
returns-clause-bytes c =
    let number : length c.loop-k.pages.items ≡ div_ceil c.args.count 4096 =
    omega (arith, c.loop-k.invariant.count) in
    (paged_filled c.loop-k.pages.items c.args.count c.args.byte c.requires number
    (λ k below. c.loop-k.invariant.each k (omega (arith, below)))).1

pub push_reserved-requires : goal.push_reserved-requires
push_reserved-requires c =
    omega (arith, c.loop-k.invariant.count, c.loop-k.invariant.room, c.loop-k-test.true)

pub loop-k-preserved : goal.loop-k-preserved
loop-k-preserved c =
    let filled = replicate c.args.count c.args.byte in
    record {
      count = omega (arith, c.loop-k.invariant.count, c.push_reserved.ensures.len);
      room = c.push_reserved.ensures.capacity ∙ c.loop-k.invariant.room;
      each = λ j below. get-push (piece_at filled) c.loop-k.pages.items
          c.push_reserved.new.self.items c.in_ok-filled_page.field-0 (vec_len c.loop-k.pages)
          c.push_reserved.ensures.items (omega (arith, c.loop-k.pages.ok))
          (c.in_ok-filled_page.ensures ∙ ap (piece_at filled) (sym c.loop-k.invariant.count))
          c.loop-k.invariant.each j (omega (arith, below, c.push_reserved.ensures.len));
    }
