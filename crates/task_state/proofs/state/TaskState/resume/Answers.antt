-- A call that is answered is one of the program's, whose number is small.
use Rattle.std.proofs.Common.{◌<◌, length, subst, sym, arith}
use Rattle.task_state.specs.Value.{TaskValue}
use Rattle.task_state.proofs.state.TaskState.resume.Goals as goal

pub overflow_add-self : goal.overflow_add-self
overflow_add-self c =
    let due : c.args.self.now.position.call_state.at < length c.args.self.now.program.calls =
    c.in-Some-Over.ensures.due in
    let here : c.self.inside.at < length c.self.inside.calls.items =
    subst (λ (t : TaskValue). t.position.call_state.at < length t.program.calls)
    (sym c.self.view_is) due in
    omega (arith, here, c.self.invariant.small)
