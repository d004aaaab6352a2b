-- The setup of a script, which never changes while the script runs.
use Rattle.std.specs.Prelude.{ℕ, false, List, [], ◌++◌, map}
use Rattle.call_steps.specs.templates.declared.entry.Entry.{Entry}
use Rattle.inode_meta.specs.declared.appraisal.Mode.{Mode}
use Rattle.inode_meta.specs.declared.identity.Cred.{Cred}
use Rattle.inode_meta.specs.declared.identity.Meta.{Meta}
use Rattle.call_steps.specs.policy.ActionValue.{ActionValue}
use Rattle.call_steps.specs.policy.RuleValue.{RuleValue}
use Rattle.call_steps.specs.policy.declared.access.Super.{Super}
use Rattle.call_steps.specs.policy.declared.rule.Func.{Func}
use Rattle.policy_cell.specs.matching.Decision.{access_of, decide_of}
use Rattle.call_steps.specs.events.Inode.{Inode}
use Rattle.call_steps.specs.events.declared.image.Image.{Image}
use Rattle.call_steps.specs.events.declared.settings.Settings.{Settings}
use Rattle.call_steps.specs.declared.call.Call.{Call}
use Rattle.policy_cell.specs.declared.cell.RuleEntry.{RuleEntry}

-- the absence of a file system
abbrev pub no_super : Super
no_super = record { magic = 0; uuid = 0; name = []; versions = false }

-- a file of the script: its path, its inode at birth, and its file system
pub record ScriptFile : Type 0 where
  pub path : List ℕ
  pub birth : Image
  pub place : Super

-- the credentials and the calls of a task
pub record Program : Type 0 where
  pub cred : Cred
  pub calls : List Call

pub record Scene : Type 0 where
  pub settings : Settings
  -- the first entry of the measurement list
  pub boot : Entry
  pub script_files : List ScriptFile
  -- the rules of the script; tasks may append others
  pub rules : List RuleValue
  pub programs : List Program

abbrev pub inode_of : Scene → ScriptFile → Inode
inode_of scene s = record { path = s.path; settings = scene.settings; birth = s.birth }

abbrev pub mode_of : Scene → Mode
mode_of scene = scene.settings.mode

-- the rules in force: the script's, followed by the appended ones
abbrev pub rules_with : Scene → List RuleEntry → List RuleValue
rules_with scene added = scene.rules ++ map (λ (r : RuleEntry). r.rule) added

-- the action that the rules give an access
abbrev pub decided : List RuleValue → Cred → Super → Meta → Func → ℕ → ActionValue
decided rules cred place meta func mask = decide_of rules (access_of cred place meta func mask)
