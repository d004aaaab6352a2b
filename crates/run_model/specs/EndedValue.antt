-- The final state of a run: the contract view of it, and its definition from the shown run.
use Rattle.std.specs.Prelude.{ℕ, Bool, true, false, List, [], ◌∷◌, length}
use Rattle.std.specs.List.{list_any}
use Rattle.inode_meta.specs.declared.measurement.Template.{Template}
use Rattle.measure_book.specs.registers.declared.banks.Banks.{Banks}
use Rattle.measure_book.specs.Replay.{banks_of}
use Rattle.call_steps.specs.templates.declared.entry.Entry.{Entry}
use Rattle.call_steps.specs.events.EndedInode.{EndedInodeValue, ended_inode}
use Rattle.call_steps.specs.events.declared.told.Event.{Event}
use Rattle.call_steps.specs.declared.call.Call.{Call}
use Rattle.call_steps.specs.declared.call.Call.TheVariants as call
use Rattle.call_steps.specs.declared.reply.Reply.{Reply}
use Rattle.run_model.specs.Ended.{is_done, is_stuck}
use Rattle.run_model.specs.History.{Position}
use Rattle.run_model.specs.Scene.{Program, Scene, ScriptFile, inode_of}
use Rattle.run_model.specs.Served.{Run}
use Rattle.policy_cell.specs.declared.cell.RuleEntry.{RuleEntry}

-- whether all calls of the task are answered, and the replies
pub record EndedTaskValue : Type 0 where
  pub done : Bool
  pub replies : List Reply

-- `base` is the number of the script's rules, and `grows` says whether some task's program can
-- append rules
pub record EndedValue : Type 0 where
  pub inodes : List EndedInodeValue
  pub list : List Entry
  pub banks : Banks
  pub tasks : List EndedTaskValue
  pub stuck : Bool
  pub template : Template
  pub rules : List RuleEntry
  pub base : ℕ
  pub grows : Bool

abbrev pub inodes_ended : Scene → List ScriptFile → List (List Event) → List EndedInodeValue
inodes_ended scene [] journals = []
inodes_ended scene (s ∷ ss) [] = []
inodes_ended scene (s ∷ ss) (j ∷ js) = ended_inode (inode_of scene s) j ∷ inodes_ended scene ss js

abbrev pub tasks_ended : List Program → List Position → List EndedTaskValue
tasks_ended [] positions = []
tasks_ended (p ∷ ps) [] = []
tasks_ended (p ∷ ps) (t ∷ ts) = record { done = is_done p t; replies = t.replies }
    ∷ tasks_ended ps ts

abbrev pub appends : Call → Bool
appends (call.AddRule rule) = true
appends _ = false

-- whether some task's program can append a rule
abbrev pub grows : Scene → Bool
grows scene = list_any (λ (p : Program). list_any appends p.calls) scene.programs

-- the final state of a run, in which the PCRs are the replay of the measurement list
abbrev pub ended_of : Scene → Run → EndedValue
ended_of scene run = record {
  inodes = inodes_ended scene scene.script_files run.journals;
  list = run.list;
  banks = banks_of run.list;
  tasks = tasks_ended scene.programs run.positions;
  stuck = is_stuck scene.programs run.positions;
  template = scene.settings.template;
  rules = run.added;
  base = length scene.rules;
  grows = grows scene;
}
