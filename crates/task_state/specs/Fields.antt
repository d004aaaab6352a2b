-- The invariant and the contract view of a task's fields.
use Rattle.std.specs.Prelude.{◌-◌, ◌<◌, ◌^◌, length, min, option_map, vec_capacity, vec_len}
use Rattle.task_state.specs.Value.{TaskValue, progress_in, step_of}
use Rattle.task_state.specs.declared.state.TaskState.TheInside.{Inside}

-- each step needs room for a reply and for a handle, and a step number
abbrev pub task_of : Inside → TaskValue
task_of i = record {
  program = record { cred = i.cred; calls = i.calls.items };
  position = record {
    call_state = record {
      at = i.at;
      progress = option_map progress_in i.progress;
      handles = i.handles.items;
    };
    replies = i.replies.items;
  };
  checked = i.checked;
  spare = min (vec_capacity i.replies - vec_len i.replies)
      (min (vec_capacity i.handles - vec_len i.handles)
      (0xffff_ffff - step_of (option_map progress_in i.progress)));
}

-- calls are numbered in 32 bits
pub record IsTaskState (i : Inside) : Type 0 where
  pub small : length i.calls.items < 2 ^ 32
