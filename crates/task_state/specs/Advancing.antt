-- The effect of an outcome on the call in progress, and so on the task.
use Rattle.std.specs.Prelude.{◌+◌, ◌++◌, List, Option, None, Some, if◌then◌else◌, option_to_list}
use Rattle.run_model.specs.steps.CallState.{CallState, handles_left, is_done}
use Rattle.run_model.specs.steps.declared.held.Handle.{Handle}
use Rattle.run_model.specs.steps.declared.reply.Reply.{Reply}
use Rattle.run_model.specs.History.{Position, position_with}
use Rattle.task_state.specs.Value.{progress_in}
use Rattle.task_state.specs.declared.advance.Answer.{Answer}
use Rattle.task_state.specs.declared.advance.Advance.{Advance}
use Rattle.task_state.specs.declared.advance.Advance.TheVariants as advance

-- the files after an answered call: if it was done, it ended a name or made one
abbrev pub handles_after_answer : Answer → List Handle → List Handle
handles_after_answer a hs = if is_done a.reply then handles_left a.ended hs ++ option_to_list a.made
    else hs

abbrev pub after_advance : CallState → Advance → CallState × Option Reply
after_advance m (advance.On g) = (record m { progress = Some (progress_in g) }, None)
after_advance m (advance.Over a) = (
  record { at = m.at + 1; progress = None; handles = handles_after_answer a m.handles },
  Some a.reply,
)

-- an outcome leaves a task whose program is over unchanged
abbrev pub position_after : Position → Option Advance → Position
position_after t None = t
position_after t (Some h) = position_with t (after_advance t.call_state h)
