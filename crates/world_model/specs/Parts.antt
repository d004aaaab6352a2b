-- The lists of a world together: its constants, and the invariants between the lists and these.
use Rattle.std.specs.Prelude.{◌≡◌, ℕ, List, map, Some, slice_get}
use Rattle.grow_list.specs.Shown.{Grown}
use Rattle.run_laws.specs.templates.declared.entry.Entry.{Entry}
use Rattle.inode_events.specs.declared.settings.Settings.{Settings}
use Rattle.inode_events.specs.declared.told.Event.{Event}
use Rattle.policy_cell.specs.Policy.{PolicyValue}
use Rattle.policy_rules.specs.declared.access.Super.{Super}
use Rattle.run_model.specs.Turns.{State}
use Rattle.world_model.specs.WorldConsts.{WorldConsts, boot_in}
use Rattle.world_model.specs.World.{AreRulesOf, AreSignalsOf, IsBookOf, IsWorldInode, WorldInodeValue, inode_consts_of, journal_of}

-- the constants of a world with these parts
abbrev pub consts_by : Settings → List WorldInodeValue → List Super → Grown Entry → Grown Event
    → PolicyValue → ℕ → WorldConsts
consts_by settings world_inodes supers book sems rules tasks = record {
  settings = settings;
  boot = boot_in book.list;
  each_inode = map inode_consts_of world_inodes;
  supers = supers;
  base = rules.base;
  book = book.name;
  signals = sems.name;
  rules = rules.appended.name;
  tasks = tasks;
}

-- the lists of a world with these parts
abbrev pub state_by : List WorldInodeValue → Grown Entry → Grown Event → PolicyValue → State
state_by world_inodes book sems rules = record {
  journals = map journal_of world_inodes;
  list = book.list;
  signals = sems.list;
  added = rules.appended.list;
}

-- each part belongs to the constants
pub record AreParts (consts : WorldConsts) (inodes : List WorldInodeValue) (list : Grown Entry)
    (signals : Grown Event) (policy : PolicyValue) : Type 0 where
  pub world_inodes : (i : ℕ) (s : WorldInodeValue) → slice_get inodes i ≡ Some s
      → IsWorldInode consts i s
  pub book : IsBookOf consts list
  pub sems : AreSignalsOf consts signals
  pub rules : AreRulesOf consts policy
