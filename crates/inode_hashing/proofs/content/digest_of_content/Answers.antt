use Rattle.std.proofs.Common.{◌∙◌, ◌++◌, ap, subst, sym, take}
use Rattle.std.specs.List.{concat}
use Rattle.hash_algos.specs.Running.{HasTaken}
use Rattle.inode_pages.proofs.Walking.{concat_more}
use Rattle.inode_hashing.proofs.content.digest_of_content.Goals as goal

pub loop-page-preserved : goal.loop-page-preserved
loop-page-preserved c =
    let old = c.loop-page.invariant in
    let pages = c.pages-pages.result.now in
    let i = c.loop-page.page-index in
    record {
      algo = c.feed.ensures.algo ∙ old.algo;
      taken = subst (HasTaken c.feed.new.self)
          (ap (λ p. concat (take i pages) ++ p) c.as_slice.ensures.bytes
          ∙ sym (concat_more pages i c.page-item.result c.loop-page-test.true c.page-item.is))
          (c.feed.ensures.taken _ old.taken);
    }
