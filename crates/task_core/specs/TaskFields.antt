-- The value of a task that contracts see.
use Rattle.std.specs.Prelude.{Option, option_map}
use Rattle.call_steps.specs.declared.call.Call.{Call}
use Rattle.inode_meta.specs.declared.step.Who.{Who}
use Rattle.run_model.specs.History.{call_at, who_at}
use Rattle.task_core.specs.declared.task.Task.TheInside.{Inside}
use Rattle.world_model.specs.Tasks.{Tasked}

abbrev pub tasked_of : Inside → Tasked
tasked_of t =
    record {
      number = t.number;
      task_state = t.task_state;
      hash_state = t.hash_state;
      passes = t.passes;
    }

-- the place (`Who`) of the step that comes next, if the program isn't over
abbrev pub who_of : Tasked → Option Who
who_of t = option_map
    (λ (c : Call). who_at t.number t.task_state.program t.task_state.position.call_state)
    (call_at t.task_state.program t.task_state.position.call_state)
