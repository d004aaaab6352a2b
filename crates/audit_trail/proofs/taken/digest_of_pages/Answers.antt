use Rattle.std.proofs.Common.{◌∙◌, ◌++◌, ap, subst, sym, take}
use Rattle.std.specs.List.{concat}
use Rattle.world_model.specs.model.events.hashes.Running.{HasTaken}
use Rattle.audit_trail.proofs.Pages.{concat_more}
use Rattle.audit_trail.proofs.taken.digest_of_pages.Goals as goal

pub loop-page-preserved : goal.loop-page-preserved
loop-page-preserved c =
    let old = c.loop-page.invariant in
    let pages = c.args.pages.now in
    let i = c.loop-page.page-index in
    record {
      algo = c.feed.ensures.algo ∙ old.algo;
      taken = subst (HasTaken c.feed.new.self)
          (ap (λ p. concat (take i pages) ++ p) c.as_slice.ensures.bytes
          ∙ sym (concat_more pages i c.page-item.result c.loop-page-test.true c.page-item.is))
          (c.feed.ensures.taken _ old.taken);
    }
