-- The semaphores keep their name and their callers.
use Rattle.std.proofs.Common.{◌∙◌}
use Rattle.std.proofs.lemmas.Result.{err_from_is_err_and}
use Rattle.task_core.proofs.Shares.{with_sems}
use Rattle.task_core.proofs.world.World.signal.Goals as goal

pub invariant_of-self : goal.invariant_of-self
invariant_of-self c =
    let w = c.self.inside.parts in
    let x = with_sems w.settings w.world_inodes.items w.supers.items w.book w.sems w.rules w.tasks
    w.spares.items c.self.invariant.parts c.self.invariant.spares c.reserve.new.self
    c.reserve.ensures.list.name c.reserve.ensures.list.callers in
    record { parts = x.0; spares = x.1 }

pub invariant_of-self-2 : goal.invariant_of-self-2
invariant_of-self-2 c =
    let w = c.self.inside.parts in
    let x = with_sems w.settings w.world_inodes.items w.supers.items w.book w.sems w.rules w.tasks
    w.spares.items c.self.invariant.parts c.self.invariant.spares c.signal.new.self
    (c.signal.ensures.kept.0 ∙ c.reserve.ensures.list.name)
    (c.signal.ensures.kept.1 ∙ c.reserve.ensures.list.callers) in
    record { parts = x.0; spares = x.1 }

pub returns-in_err-reserve-clause-told : goal.returns-in_err-reserve-clause-told
returns-in_err-reserve-clause-told c =
    let p = err_from_is_err_and c.from_residual.result c.from_residual.ensures.1 in
    rw (p.1) tt
