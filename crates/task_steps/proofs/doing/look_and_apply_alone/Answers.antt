-- What the deed leaves after the look, it leaves of the cell and the pass before the look.
use Rattle.task_steps.proofs.Leaving.{leaves_looked}
use Rattle.task_steps.specs.Leaving.{told_in}
use Rattle.task_state.specs.Steps.{deed_in}
use Rattle.task_steps.proofs.doing.look_and_apply_alone.Goals as goal

pub returns-clause-leaves : goal.returns-clause-leaves
returns-clause-leaves c =
    λ list. leaves_looked c.args.cell.now c.look.new.self c.dispatch_alone.new.cell list list
    c.args.pass.now c.look.new.pass c.dispatch_alone.new.pass c.args.actor.now.who
    (deed_in c.args.due) (told_in c.dispatch_alone.result) c.look.ensures.list c.look.ensures.same
    c.look.ensures.mine c.look.ensures.pass (c.dispatch_alone.ensures.leaves list)
