-- The value of a world that contracts see, and the invariants between its parts and its constants.
use Rattle.std.specs.Prelude.{◌≡◌, ℕ, ◌+◌, ◌<◌, List, [], length, map, max, Some, slice_get}
use Rattle.grow_list.specs.Shown.{Grown, Passed}
use Rattle.run_laws.specs.templates.declared.entry.Entry.{Entry}
use Rattle.run_laws.specs.events.declared.told.Event.{Event}
use Rattle.inode_cell.specs.Value.{CellValue}
use Rattle.run_laws.specs.rules.Policy.{PolicyValue}
use Rattle.run_laws.specs.rules.declared.cell.RuleEntry.{RuleEntry}
use Rattle.run_laws.specs.ScriptFiles.{ScriptFileRules}
use Rattle.run_laws.specs.model.Turns.{State}
use Rattle.world_model.specs.WorldConsts.{InodeConsts, WorldConsts}

-- a world as contracts see it: its constants and its lists
pub record WorldValue : Type 0 where
  pub consts : WorldConsts
  pub state : State

-- an inode of a world: its cell, its pass of the appended rules, and the number of its file system
pub record WorldInodeValue : Type 0 where
  pub cell : CellValue
  pub rules : Passed RuleEntry
  pub place : ℕ

abbrev pub inode_consts_of : WorldInodeValue → InodeConsts
inode_consts_of s = record {
  path = s.cell.inode.path;
  birth = s.cell.inode.birth;
  place = s.place;
  journal = s.cell.journal;
}

abbrev pub journal_of : WorldInodeValue → List Event
journal_of s = s.cell.list

-- ---- the invariants of the parts

-- The inode is number i of the constants. Its pass of the measurement list is caller i + 1, after
-- the list's own, and its pass of the appended rules comes after those of the tasks. Along its
-- journal the rules that its checks count never decrease, and stay within those that its pass has
-- seen.
pub record IsWorldInode (consts : WorldConsts) (i : ℕ) (s : WorldInodeValue) : Type 0 where
  pub inode_consts : slice_get consts.each_inode i ≡ Some (inode_consts_of s)
  pub settings : s.cell.inode.settings ≡ consts.settings
  pub place : s.place < length consts.supers
  pub callers : s.cell.callers ≡ consts.tasks + 1
  pub book : s.cell.book ≡ consts.book
  pub booked : s.cell.booked ≡ i + 1
  pub rules_name : s.rules.name ≡ consts.rules
  pub rules_number : s.rules.number ≡ consts.tasks + i
  pub rules_mine : s.rules.mine ≡ []
  pub rise : ScriptFileRules (length consts.base) s.cell.list s.rules.seen

-- the measurement list, whose callers are itself, the inodes and the tasks
pub record IsBookOf (consts : WorldConsts) (book : Grown Entry) : Type 0 where
  pub name : book.name ≡ consts.book
  pub boot : slice_get book.list 0 ≡ Some consts.boot
  pub callers : book.callers ≡ 1 + length consts.each_inode + consts.tasks

-- the journal of the semaphores, whose callers are itself and the tasks
pub record AreSignalsOf (consts : WorldConsts) (signals : Grown Event) : Type 0 where
  pub name : signals.name ≡ consts.signals
  pub callers : signals.callers ≡ consts.tasks + 1

-- The rules, whose callers are the tasks and the inodes, or one spare caller if there are none.
-- Each appended rule has the number of its task.
pub record AreRulesOf (consts : WorldConsts) (p : PolicyValue) : Type 0 where
  pub name : p.appended.name ≡ consts.rules
  pub base : p.base ≡ consts.base
  pub callers : p.appended.callers ≡ max 1 (consts.tasks + length consts.each_inode)
  pub numbers : p.appended.numbers ≡ map (λ (r : RuleEntry). r.who.task) p.appended.list
