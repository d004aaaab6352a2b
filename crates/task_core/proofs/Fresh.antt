-- A task that has made no step.
use Rattle.std.proofs.Common.{◌≡◌, ℕ, List, [], length, sym, subst}
use Rattle.call_steps.specs.declared.call.Call.{Call}
use Rattle.inode_events.specs.Checks.{no_action}
use Rattle.inode_meta.specs.declared.identity.Cred.{Cred}
use Rattle.run_model.specs.History.{start}
use Rattle.run_model.specs.Scene.{Program}
use Rattle.world_model.specs.WorldConsts.{WorldConsts}
use Rattle.world_model.specs.Tasks.{AreCallsOf, ArePassesOf, AreUnused, IsTask, PassesValue}
use Rattle.world_model.specs.declared.hash_state.HashState.TheVariants as hash_state
use Rattle.world_locks.proofs.about_worlds.Playing.{fresh_is_task}
use Rattle.task_state.specs.Value.{TaskValue}

-- a task that has made no step is a task of every world whose passes it has
pub new_task : (number : ℕ) (task_state : TaskValue) (passes : PassesValue) (cred : Cred)
    (calls : List Call) → task_state.program ≡ record { cred = cred; calls = calls }
    → task_state.position ≡ start → task_state.checked ≡ no_action → (consts : WorldConsts)
    → ArePassesOf consts number passes → AreUnused passes
    → AreCallsOf (length consts.each_inode) calls → IsTask consts (record {
      number = number;
      task_state = task_state;
      hash_state = hash_state.Idle;
      passes = passes;
    })
new_task number task_state passes cred calls program position checked consts own unused are =
    record {
      history = [];
      played = fresh_is_task consts (record {
        number = number;
        task_state = task_state;
        hash_state = hash_state.Idle;
        passes = passes;
      }) (subst (λ (p : Program). AreCallsOf (length consts.each_inode) p.calls) (sym program) are)
          position checked own unused;
    }
