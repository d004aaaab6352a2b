-- What a world starts with.
use Rattle.std.specs.Prelude.{◌≡◌, ℕ, List, length, map, Some, slice_get}
use Rattle.ima_templates.specs.declared.entry.Entry.{Entry}
use Rattle.inode_events.specs.declared.image.Image.{Image}
use Rattle.inode_events.specs.declared.settings.Settings.{Settings}
use Rattle.policy_rules.specs.RuleValue.{RuleValue}
use Rattle.policy_rules.specs.declared.access.Super.{Super}
use Rattle.world_close.specs.model.Scene.{Program}
use Rattle.world_close.specs.model.Turns.{State, start_of}
use Rattle.world_close.specs.worlds.WorldConsts.{InodeConsts, WorldConsts, scene_of}
use Rattle.world_close.specs.worlds.Tasks.{ArePassesOf, AreUnused, PassesValue}

-- the constants are those of a script with these settings, this first entry of the list, these
-- files on these file systems, these rules, and this many tasks
pub record AreConstsOf (config : Settings) (first : Entry) (inodes : List (List ℕ × Image))
    (systems : List Super) (numbers : List ℕ) (policy : List RuleValue) (count : ℕ)
    (consts : WorldConsts) : Type 0 where
  pub settings : consts.settings ≡ config
  pub boot : consts.boot ≡ first
  pub files : map (λ (s : InodeConsts). (s.path, s.birth)) consts.each_inode ≡ inodes
  pub supers : consts.supers ≡ systems
  pub places : map (λ (s : InodeConsts). s.place) consts.each_inode ≡ numbers
  pub base : consts.base ≡ policy
  pub tasks : consts.tasks ≡ count

-- the lists are those with which a run begins, whatever its programs
abbrev pub Begins : WorldConsts → State → Type 0
Begins consts state =
    (programs : List Program) → state ≡ (start_of (scene_of consts programs)).state

-- there are passes for each task, in order, and none has an entry of its own
pub record AreFirstPasses (consts : WorldConsts) (passes : List PassesValue) : Type 0 where
  pub count : length passes ≡ consts.tasks
  pub each : (k : ℕ) (p : PassesValue) → slice_get passes k ≡ Some p
      → ArePassesOf consts k p × AreUnused p
