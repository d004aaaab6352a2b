-- How a world's lists start, and the callers that their passes belong to.
use Rattle.std.specs.Prelude.{◌≡◌, ℕ, ◌+◌, ◌<◌, ◌≤◌, All, List, [], ◌∷◌, ◌++◌, length, map, Some, slice_get}
use Rattle.grow_list.specs.Shown.{ListName, Passed, fresh}
use Rattle.ima_templates.specs.Path.{IsMeasuredPath}
use Rattle.ima_templates.specs.declared.entry.Entry.{Entry}
use Rattle.inode_events.specs.meta.declared.measurement.Template.TheVariants.{Ima}
use Rattle.inode_events.specs.declared.image.Image.{Image}
use Rattle.inode_events.specs.declared.settings.Settings.{Settings}
use Rattle.inode_events.specs.declared.told.Event.{Event}
use Rattle.inode_events.specs.pages.Content.{most_bytes}
use Rattle.world_close.specs.states.Value.{birth_of, new_pass}
use Rattle.policy_cell.specs.declared.cell.RuleEntry.{RuleEntry}
use Rattle.world_close.specs.worlds.World.{WorldInodeValue}
use Rattle.world_close.specs.worlds.Tasks.{PassesValue}

-- a file that a world can have: each template can represent its path, and its content is within the
-- limit
pub record IsFile (x : List ℕ × Image) : Type 0 where
  pub path : IsMeasuredPath Ima x.0
  pub content : length x.1.content ≤ most_bytes

-- ---- passes

-- this many passes of one list, each with its number, and none with an entry of its own
pub record AreFresh {E : Type 0} (name : ListName) (number : ℕ → ℕ) (count : ℕ)
    (passes : List (Passed E)) : Type 0 where
  pub even : length passes ≡ count
  pub each : (k : ℕ) → k < length passes → slice_get passes k ≡ Some (fresh name (number k))

-- ---- the inodes

-- the journal of the inode holds only its birth, in a world with these settings and this many tasks
pub record IsStarted (config : Settings) (tasks : ℕ) (s : WorldInodeValue) : Type 0 where
  pub settings : s.cell.inode.settings ≡ config
  pub list : s.cell.list ≡ birth_of s.cell.inode.birth ∷ []
  pub callers : s.cell.callers ≡ tasks + 1

-- the constants of an inode that are given at the start: its path and image, the number of its file
-- system, and its passes of the measurement list and of the appended rules
abbrev pub file_of : WorldInodeValue → List ℕ × Image
file_of s = (s.cell.inode.path, s.cell.inode.birth)

abbrev pub place_of : WorldInodeValue → ℕ
place_of s = s.place

abbrev pub list_pass_of : WorldInodeValue → ListName × ℕ
list_pass_of s = (s.cell.book, s.cell.booked)

abbrev pub rule_pass_of : WorldInodeValue → Passed RuleEntry
rule_pass_of s = s.rules

-- the name of the pass's list, and the pass's number in it
abbrev pub named_by : Passed Entry → ListName × ℕ
named_by q = (q.name, q.number)

-- for each inode: the number of its file system, and its passes of the measurement list and of the
-- appended rules
pub record SeatsValue : Type 0 where
  pub places : List ℕ
  pub list_passes : List (Passed Entry)
  pub rule_passes : List (Passed RuleEntry)

-- the inodes are started in order, each with its seat
pub record AreStarted (settings : Settings) (tasks : ℕ) (inodes : List (List ℕ × Image))
    (seats : SeatsValue) (world_inodes : List WorldInodeValue) : Type 0 where
  pub files : map file_of world_inodes ≡ inodes
  pub places : map place_of world_inodes ≡ seats.places
  pub list_passes : map list_pass_of world_inodes ≡ map named_by seats.list_passes
  pub rule_passes : map rule_pass_of world_inodes ≡ seats.rule_passes
  pub each : All (IsStarted settings tasks) world_inodes

-- the first inodes are started, and `left` and `rest` remain
pub record StartsBefore (settings : Settings) (tasks : ℕ) (inodes : List (List ℕ × Image))
    (seats : SeatsValue) (left : List (List ℕ × Image)) (rest : SeatsValue)
    (world_inodes : List WorldInodeValue) : Type 0 where
  pub files : inodes ≡ map file_of world_inodes ++ left
  pub places : seats.places ≡ map place_of world_inodes ++ rest.places
  pub list_passes : map named_by seats.list_passes
      ≡ map list_pass_of world_inodes ++ map named_by rest.list_passes
  pub rule_passes : seats.rule_passes ≡ map rule_pass_of world_inodes ++ rest.rule_passes
  pub even_places : length rest.places ≡ length left
  pub even_list_passes : length rest.list_passes ≡ length left
  pub even_rule_passes : length rest.rule_passes ≡ length left
  pub left_files : All IsFile left
  pub left_list_passes : All (λ (q : Passed Entry). q.mine ≡ []) rest.list_passes
  pub each : All (IsStarted settings tasks) world_inodes

-- ---- the passes of the tasks

-- task k's pass of the inode's journal: it has seen the journal, and added nothing to it
abbrev pub pass_of : WorldInodeValue → ℕ → Passed Event
pass_of s k = new_pass s.cell.journal s.cell.list (k + 1)

-- task k's passes of these inodes' journals
abbrev pub row_of : List WorldInodeValue → ℕ → List (Passed Event)
row_of world_inodes k = map (λ (s : WorldInodeValue). pass_of s k) world_inodes

abbrev pub AreRows : List WorldInodeValue → ℕ → List (List (Passed Event)) → Type 0
AreRows world_inodes tasks rows = (length rows ≡ tasks)
    × ((k : ℕ) (row : List (Passed Event)) → slice_get rows k ≡ Some row
    → row ≡ row_of world_inodes k)

-- the passes of all tasks, sorted by the list that each belongs to
pub record ColumnsValue : Type 0 where
  pub rows : List (List (Passed Event))
  pub sems : List (Passed Event)
  pub book : List (Passed Entry)
  pub rules : List (Passed RuleEntry)

-- the next task has taken its passes
pub record HasTaken (old new : ColumnsValue) (p : PassesValue) : Type 0 where
  pub rows : old.rows ≡ p.inodes ∷ new.rows
  pub sems : old.sems ≡ p.sems ∷ new.sems
  pub book : old.book ≡ p.book ∷ new.book
  pub rules : old.rules ≡ p.rules ∷ new.rules

-- the first tasks have taken their passes, and `left` remains
pub record AreGathered (all left : ColumnsValue) (passes : List PassesValue) : Type 0 where
  pub rows : all.rows ≡ map (λ (p : PassesValue). p.inodes) passes ++ left.rows
  pub sems : all.sems ≡ map (λ (p : PassesValue). p.sems) passes ++ left.sems
  pub book : all.book ≡ map (λ (p : PassesValue). p.book) passes ++ left.book
  pub rules : all.rules ≡ map (λ (p : PassesValue). p.rules) passes ++ left.rules
  pub even_sems : length left.sems ≡ length left.rows
  pub even_book : length left.book ≡ length left.rows
  pub even_rules : length left.rules ≡ length left.rows
