-- Runs that are served or aren't, and the effect of turns and rounds.
use Rattle.std.specs.Prelude.{◌≡◌, ℕ, true, false, List, [], ◌∷◌, codes, Some, None}
use Rattle.inode_events.specs.Checks.{no_action}
use Rattle.inode_events.specs.declared.deed.Deed.TheVariants as deed
use Rattle.inode_events.specs.declared.deed.How.TheVariants as how
use Rattle.inode_events.specs.declared.told.Event.{Event}
use Rattle.inode_events.specs.declared.told.Told.TheVariants as told
use Rattle.inode_events.specs.meta.declared.appraisal.Mode.TheVariants.{Off}
use Rattle.inode_events.specs.meta.declared.appraisal.Need.TheVariants.{Any}
use Rattle.inode_events.specs.policy.RuleValue.{RuleValue}
use Rattle.inode_events.specs.policy.declared.rule.Act.TheVariants.{Measure}
use Rattle.inode_events.specs.policy.declared.rule.Func.{Func}
use Rattle.inode_events.specs.policy.declared.rule.Func.TheVariants.{BprmCheck, FileCheck}
use Rattle.run_laws.specs.model.History.{Position}
use Rattle.run_laws.specs.model.Rounds.{rounds}
use Rattle.run_laws.specs.model.Scene.{Program, Scene, ScriptFile}
use Rattle.run_laws.specs.model.Served.{Run, Served}
use Rattle.run_laws.specs.model.Turns.{State, start_of, turns_of}
use Rattle.run_laws.specs.model.steps.declared.call.Call.{Call}
use Rattle.run_laws.specs.model.steps.declared.call.Call.TheVariants as call
use Rattle.run_laws.specs.model.steps.declared.held.Name.TheVariants.{Descriptor}
use Rattle.run_laws.specs.model.steps.declared.reply.Reply.TheVariants as reply
use Rattle.worked_examples.specs.Shared.{abc, birth, boot, did, file_a, image, measure, settings, who}

-- ---- scripts

-- the file /a on ext4
abbrev pub script_file : ScriptFile
script_file = record {
  path = codes "/a";
  birth = image true abc;
  place = record { magic = 0xef53; uuid = 1; name = codes "ext4"; versions = true };
}

-- the rule `measure func=` with this hook
abbrev pub measure_at : Func → RuleValue
measure_at func = record {
  act = Measure;
  func = Some func;
  mask = None;
  fsmagic = None;
  fsuuid = None;
  fsname = None;
  uid = None;
  euid = None;
  gid = None;
  egid = None;
  fowner = None;
  fgroup = None;
  need = Any;
  blacklist = false;
  algos = None;
  directio = false;
  pcr = None;
  template = None;
}

-- a task of the superuser
abbrev pub task : List Call → Program
task calls = record {
  cred = record { uid = 0; euid = 0; gid = 0; egid = 0; admin = true };
  calls = calls;
}

-- a script in mode off with these rules and tasks
abbrev pub scene : List RuleValue → List Program → Scene
scene rules programs = record {
  settings = settings Off;
  boot = boot;
  script_files = script_file ∷ [];
  rules = rules;
  programs = programs;
}

-- the call `open 0 /a r`
abbrev pub opening : Call
opening = call.Open 0 0 (how.Read false) false

-- ---- checks that count rules

-- two tasks open the file, and a third appends a rule; no rule concerns the opens
abbrev pub counting : Scene
counting = scene (measure_at BprmCheck ∷ []) (task (opening ∷ []) ∷ task (opening ∷ [])
    ∷ task (call.AddRule (measure_at BprmCheck) ∷ []) ∷ [])

-- a task opens the file, and its check counts this number of rules
abbrev pub counted : ℕ → ℕ → ℕ → List Event → List Event
counted n file rules rest =
    did n 0 0 (deed.Count (how.Read false)) told.Held
    ∷ did n 0 1 (deed.Check file FileCheck no_action rules) told.Quiet ∷ rest

-- a task that has opened the file
abbrev pub has_opened : ℕ → Position
has_opened file = record {
  call_state = record {
    at = 1;
    progress = None;
    handles = record { name = Descriptor 0; inode = 0; file = file; how = how.Read false } ∷ [];
  };
  replies = reply.Done ∷ [];
}

-- a task whose only call is answered, and that holds no file
abbrev pub has_finished : Position
has_finished = record {
  call_state = record { at = 1; progress = None; handles = [] };
  replies = reply.Done ∷ [];
}

-- the journal, with the numbers of rules that the two checks count
abbrev pub counting_journal : ℕ → ℕ → List Event
counting_journal first second = birth file_a ∷ counted 0 1 first (counted 1 3 second [])

-- the run of these tasks with that journal
abbrev pub counting_run : ℕ → ℕ → Run
counting_run first second = record {
  journals = counting_journal first second ∷ [];
  list = boot ∷ [];
  added = record { who = who 2 0 0; rule = measure_at BprmCheck } ∷ [];
  positions = has_opened 1 ∷ has_opened 3 ∷ has_finished ∷ [];
}

-- ---- turns

-- task 0 appends a rule and opens the file, task 1 waits, and task 2 posts
abbrev pub growing : Scene
growing = scene [] (task (call.AddRule (measure_at FileCheck) ∷ opening ∷ [])
    ∷ task (call.Wait 0 ∷ []) ∷ task (call.Post 0 ∷ []) ∷ [])

-- the lists after the first wait is blocked, the rule is appended, the file is counted and checked,
-- the post is made, and the wait is made
abbrev pub grown : State
grown = record {
  journals = (birth file_a ∷ did 0 1 0 (deed.Count (how.Read false)) told.Held
      ∷ did 0 1 1 (deed.Check 1 FileCheck measure 1) told.Quiet ∷ []) ∷ [];
  list = boot ∷ [];
  signals = did 2 0 0 (deed.Post 0) told.Done ∷ did 1 0 0 (deed.Wait 0) told.Done ∷ [];
  added = record { who = who 0 0 0; rule = measure_at FileCheck } ∷ [];
}

-- ---- rounds

-- two tasks open the file
abbrev pub both : Scene
both = scene [] (task (opening ∷ []) ∷ task (opening ∷ []) ∷ [])

-- which run is served, and what turns and rounds leave
pub record ServedExamples : Type 0 where
  -- along the journal, the number of counted rules rises
  pub rising : Served counting (counting_run 1 2)
  -- it falls from one task's check to another's
  pub falling : Served counting (counting_run 2 1) → ⊥
  -- turns of tasks that append a rule, check, post and wait
  pub turns : (turns_of growing (start_of growing) (1 ∷ 0 ∷ 0 ∷ 0 ∷ 2 ∷ 1 ∷ [])).state ≡ grown
  -- a round has a turn of each task, in the order of their numbers
  pub round : (rounds both 1 (start_of both)).state.journals
      ≡ (birth file_a ∷ did 0 0 0 (deed.Count (how.Read false)) told.Held
      ∷ did 1 0 0 (deed.Count (how.Read false)) told.Held ∷ []) ∷ []
