-- The scene that a script sets up.
use Rattle.std.specs.Prelude.{ℕ, List, [], map, codes, get_or, IsTrue}
use Rattle.hash_algos.specs.declared.digest.Digest.{Digest}
use Rattle.ima_templates.specs.Entries.{entry_of}
use Rattle.ima_templates.specs.declared.entry.Entry.{Entry}
use Rattle.inode_meta.specs.declared.measurement.Template.{Template}
use Rattle.inode_meta.specs.Registers.{default_pcr}
use Rattle.run_model.specs.events.declared.image.Image.{Image}
use Rattle.run_model.specs.events.declared.settings.Settings.{Settings}
use Rattle.run_model.specs.policy.RuleValue.{is_named_template}
use Rattle.run_model.specs.policy.declared.access.Super.{Super}
use Rattle.run_model.specs.Scene.{Program, Scene, ScriptFile, no_super}
use Rattle.script_text.specs.Files.{setup_of}
use Rattle.script_text.specs.ScriptValue.{ScriptValue}
use Rattle.script_text.specs.declared.blocks.FileBlock.{FileBlock}
use Rattle.script_text.specs.declared.blocks.TaskBlock.{TaskBlock}

-- the script's template is one that is for files, as it is for every script
abbrev pub IsForFiles : ScriptValue → Type 0
IsForFiles s = IsTrue (is_named_template s.template)

-- the settings that the script makes for all inodes
abbrev pub settings_of : (s : ScriptValue) → IsForFiles s → Settings
settings_of s for_files = record {
  hash = s.hash;
  template = s.template;
  mode = s.mode;
  evm = setup_of s;
  for_files = for_files;
}

-- the first entry of the measurement list, whose digest is by SHA-1 under the template `ima`
abbrev pub boot_by : Template → Digest → Entry
boot_by template boot = entry_of default_pcr template boot boot (codes "boot_aggregate") []

-- ---- files, each with its file system

abbrev pub file_of : FileBlock → List ℕ × Image
file_of b = (b.path, b.image)

abbrev pub fs_of : FileBlock → ℕ
fs_of b = b.fs

abbrev pub script_file_of : List Super → FileBlock → ScriptFile
script_file_of supers b =
    record { path = b.path; birth = b.image; place = get_or supers b.fs no_super }

abbrev pub program_of : TaskBlock → Program
program_of t = record { cred = t.cred; calls = t.calls }

abbrev pub scene_of : (s : ScriptValue) → IsForFiles s → Scene
scene_of s for_files = record {
  settings = settings_of s for_files;
  boot = boot_by s.template s.boot;
  script_files = map (script_file_of s.supers) s.files;
  rules = s.rules;
  programs = map program_of s.tasks;
}
