-- The lists that are taken out of their locks make a world with the same constants.
use Rattle.std.proofs.Common.{sym, subst}
use Rattle.world_model.specs.WorldConsts.{WorldConsts}
use Rattle.world_close.specs.Closed.{AreSpares}
use Rattle.world_model.specs.Parts.{AreParts}
use Rattle.task_core.proofs.live.Live.back.Goals as goal

pub invariant_of-world : goal.invariant_of-world
invariant_of-world g c =
    let p = c.in_ok-parts.parts in
    let keep = c.in_ok-parts.ensures.keep in
    let is = sym c.in_ok-parts.ensures.consts in
    record {
      parts = subst (λ (f : WorldConsts). AreParts f p.world_inodes.items p.book p.sems p.rules) is
          (record {
            world_inodes = keep.world_inodes.each;
            book = keep.book;
            sems = keep.sems;
            rules = keep.rules;
          });
      spares = subst (λ (f : WorldConsts). AreSpares f p.spares.items) is keep.spares;
    }
