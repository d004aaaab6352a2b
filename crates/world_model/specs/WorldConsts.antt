-- What never changes while tasks run: the constants of a world.
use Rattle.std.specs.Prelude.{ℕ, false, List, [], ◌∷◌, map, get_or}
use Rattle.grow_list.specs.Shown.{ListName}
use Rattle.hash_algos.specs.declared.algo.Algo.TheVariants.{Sha1}
use Rattle.hash_algos.specs.Digest.{digest_of}
use Rattle.run_laws.specs.templates.declared.entry.Entry.{Entry}
use Rattle.run_laws.specs.meta.declared.appraisal.Mode.{Mode}
use Rattle.run_laws.specs.meta.declared.measurement.Template.TheVariants.{Ima}
use Rattle.run_laws.specs.events.Inode.{Inode}
use Rattle.run_laws.specs.events.declared.image.Image.{Image}
use Rattle.run_laws.specs.events.declared.settings.Settings.{Settings}
use Rattle.run_laws.specs.policy.RuleValue.{RuleValue}
use Rattle.run_laws.specs.policy.declared.access.Super.{Super}
use Rattle.run_laws.specs.model.Scene.{Program, Scene, ScriptFile, no_super}

-- the constants of an inode: its path, its initial image, the number of its file system, and the
-- name of its journal
pub record InodeConsts : Type 0 where
  pub path : List ℕ
  pub birth : Image
  pub place : ℕ
  pub journal : ListName

pub record WorldConsts : Type 0 where
  pub settings : Settings
  -- the first entry of the measurement list
  pub boot : Entry
  pub each_inode : List InodeConsts
  -- the file systems, in order
  pub supers : List Super
  -- the rules of the script
  pub base : List RuleValue
  -- the names of the measurement list, of the journal of the semaphores, and of the appended rules
  pub book : ListName
  pub signals : ListName
  pub rules : ListName
  -- the number of tasks
  pub tasks : ℕ

-- ---- the scene of a run

abbrev pub super_at : WorldConsts → ℕ → Super
super_at consts place = get_or consts.supers place no_super

abbrev pub script_file_of : WorldConsts → InodeConsts → ScriptFile
script_file_of consts s =
    record { path = s.path; birth = s.birth; place = super_at consts s.place }

-- the scene with these constants and these programs
abbrev pub scene_of : WorldConsts → List Program → Scene
scene_of consts programs = record {
  settings = consts.settings;
  boot = consts.boot;
  script_files = map (script_file_of consts) consts.each_inode;
  rules = consts.base;
  programs = programs;
}

abbrev pub mode_in : WorldConsts → Mode
mode_in consts = consts.settings.mode

abbrev pub inode_in : WorldConsts → InodeConsts → Inode
inode_in consts s = record { path = s.path; settings = consts.settings; birth = s.birth }

-- ---- the first entry of a list

-- a placeholder: the first entry of an empty measurement list
abbrev pub no_entry : Entry
no_entry = record {
  pcr = 0;
  template = Ima;
  digest = digest_of Sha1 [];
  name = [];
  sig = [];
  violation = false;
}

abbrev pub boot_in : List Entry → Entry
boot_in [] = no_entry
boot_in (e ∷ es) = e
