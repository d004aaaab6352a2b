use Rattle.std.proofs.Common.{◌++◌, [], ◌∷◌, ◌∙◌, sym, arith}
use Rattle.std.proofs.lemmas.List.{take_all, take_more}
use Rattle.std.proofs.lemmas.Result.{err_from_is_err_and}
use Rattle.inode_pages.proofs.page.shared.Goals as goal

pub returns-in_err-copy : goal.returns-in_err-copy
returns-in_err-copy c =
    let p = err_from_is_err_and c.from_residual.result c.from_residual.ensures.1 in rw p.1 tt

pub push_reserved-requires : goal.push_reserved-requires
push_reserved-requires c =
    omega (arith, c.loop-page.invariant.count, c.loop-page.invariant.room, c.loop-page-test.true)

pub loop-page-preserved : goal.loop-page-preserved
loop-page-preserved c = record {
  count = omega (arith, c.push_reserved.ensures.len, c.loop-page.invariant.count);
  room = c.push_reserved.ensures.capacity ∙ c.loop-page.invariant.room;
  items = c.push_reserved.ensures.items
      ∙ (λ i. c.loop-page.invariant.items i
      ++ (c.in_ok-share.ensures.bytes ∙ c.page-item.is) i ∷ [])
      ∙ sym (take_more c.args.pages.now c.loop-page.page-index c.page-item.result
      c.loop-page-test.true);
}

pub returns : goal.returns
returns c =
    c.loop-page.invariant.items
    ∙ take_all c.loop-page.page-index c.args.pages.now c.loop-page-test.false
