use Rattle.std.proofs.Common.{◌+◌, sym, ap, ◌∙◌, arith}
use Rattle.std.specs.Prelude.{vec_len}
use Rattle.inode_pages.specs.Content.{overwritten, piece_at}
use Rattle.inode_pages.proofs.Lookups.{get-push}
use Rattle.inode_pages.proofs.content.Content.pages_after.Goals as goal

pub push_reserved-requires : goal.push_reserved-requires
push_reserved-requires c =
    omega (arith, c.loop-k.invariant.count, c.loop-k.invariant.room, c.loop-k-test.true)

pub loop-k-preserved : goal.loop-k-preserved
loop-k-preserved c =
    let after = overwritten c.args.self.now c.args.from c.args.b.now in
    record {
      count = omega (arith, c.loop-k.invariant.count, c.push_reserved.ensures.len);
      room = c.push_reserved.ensures.capacity ∙ c.loop-k.invariant.room;
      each = λ j below. get-push (λ j. piece_at after (c.args.first + j)) c.loop-k.pages.items
          c.push_reserved.new.self.items c.in_ok-page_after.field-0 (vec_len c.loop-k.pages)
          c.push_reserved.ensures.items (omega (arith, c.loop-k.pages.ok))
          (c.in_ok-page_after.ensures ∙ ap (piece_at after) (sym c.loop-k.invariant.count))
          c.loop-k.invariant.each j (omega (arith, below, c.push_reserved.ensures.len));
    }
