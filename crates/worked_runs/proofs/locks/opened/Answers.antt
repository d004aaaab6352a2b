-- The tasks of a script are tasks of its world.
use Rattle.ima_top.proofs.about_runners.about_closes.Gets.{all_by_get}
use Rattle.ima_top.specs.worlds.Tasks.{IsTask}
use Rattle.worked_runs.proofs.locks.opened.Goals as goal

pub returns : goal.returns
returns c =
    let made = c.in_ok-world in
    all_by_get (IsTask made.world.consts) made.tasks.items
    (λ k t at. (made.ensures.each.each k t at).task)
