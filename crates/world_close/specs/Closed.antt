-- What closing a world's lists yields.
use Rattle.std.specs.Prelude.{◌≡◌, ℕ, ◌+◌, ◌<◌, ◌≤◌, All, List, [], ◌∷◌, ◌++◌, get_or, length, map, max, reverse, Some, slice_get}
use Rattle.std.specs.List.{AllZip}
use Rattle.grow_list.specs.Shown.{ListName, Passed, no_name}
use Rattle.ima_templates.specs.IsEntry.{IsEntry}
use Rattle.ima_templates.specs.declared.entry.Entry.{Entry}
use Rattle.run_model.specs.registers.declared.banks.Banks.{Banks}
use Rattle.inode_events.specs.Callers.{caller_of}
use Rattle.inode_events.specs.EndedInode.{EndedInodeValue, ended_inode}
use Rattle.inode_events.specs.Legal.{Legal}
use Rattle.inode_events.specs.NewestFirst.{newest_first}
use Rattle.inode_events.specs.Semaphores.{LegalSemaphores}
use Rattle.inode_events.specs.declared.told.Event.{Event}
use Rattle.world_model.specs.laws_of_journals.Booked.{IsBooked}
use Rattle.world_model.specs.laws_of_journals.Own.{IsOwned}
use Rattle.world_model.specs.laws_of_runs.Laws.{BookClosed}
use Rattle.policy_cell.specs.declared.cell.RuleEntry.{RuleEntry}
use Rattle.world_model.specs.inodes.Value.{CellValue}
use Rattle.world_model.specs.states.Value.{nothing}
use Rattle.world_model.specs.WorldConsts.{InodeConsts, WorldConsts}
use Rattle.world_model.specs.Tasks.{PassesValue}
use Rattle.world_model.specs.World.{IsWorldInode, WorldInodeValue}

-- ---- an inode

-- an inode's journal and its pass of the measurement list, when the inode is closed
pub record CellClosed (c : CellValue) (q : Passed Entry) : Type 0 where
  pub legal : Legal c.inode (newest_first c.list)
  pub owned : IsOwned (newest_first c.list)
  pub within : All (λ e. caller_of e < c.callers) c.list
  pub name : q.name ≡ c.book
  pub number : q.number ≡ c.booked
  pub booked : IsBooked c.inode (newest_first c.list) q.seen q.mine

abbrev pub WorldInodeClosed : WorldInodeValue → Passed Entry → Type 0
WorldInodeClosed s q = CellClosed s.cell q

-- the closed inode of an inode of the world
abbrev pub ended_world_inode : WorldInodeValue → EndedInodeValue
ended_world_inode s = ended_inode s.cell.inode s.cell.list

-- closing this inode appends its pass
pub record IsPushed (s : WorldInodeValue) (old new : List (Passed Entry)) : Type 0 where
  pub pass : Passed Entry
  pub is : new ≡ old ++ pass ∷ []
  pub closed : WorldInodeClosed s pass

-- ---- all inodes

-- the closed inodes, and their passes of the measurement list and of the appended rules
pub record ClosedValue : Type 0 where
  pub inodes : List EndedInodeValue
  pub book : List (Passed Entry)
  pub rules : List (Passed RuleEntry)

pub record AreClosed (world_inodes : List WorldInodeValue) (inodes : List EndedInodeValue)
    (book : List (Passed Entry)) (rules : List (Passed RuleEntry)) : Type 0 where
  pub inodes_are : inodes ≡ map ended_world_inode world_inodes
  pub rules_are : rules ≡ map (λ (s : WorldInodeValue). s.rules) world_inodes
  pub closed : AllZip WorldInodeClosed world_inodes book

-- the inodes after `left` are closed, from the last one to the first
pub record AreClosedAfter (all left : List WorldInodeValue) (inodes : List EndedInodeValue)
    (book : List (Passed Entry)) (rules : List (Passed RuleEntry)) : Type 0 where
  pub done : List WorldInodeValue
  pub split : all ≡ left ++ done
  pub are : AreClosed done (reverse inodes) (reverse book) (reverse rules)

-- ---- all lists

-- the inodes are those of the constants, in order
pub record AreWorldInodes (consts : WorldConsts)
    (world_inodes : List WorldInodeValue) : Type 0 where
  pub even : length world_inodes ≡ length consts.each_inode
  pub each : (i : ℕ) (s : WorldInodeValue) → slice_get world_inodes i ≡ Some s
      → IsWorldInode consts i s

-- the spare passes of the rules, which come after all others and have added nothing
pub record AreSpares (consts : WorldConsts) (spares : List (Passed RuleEntry)) : Type 0 where
  pub count : consts.tasks + length consts.each_inode + length spares
      ≡ max 1 (consts.tasks + length consts.each_inode)
  pub each : (k : ℕ) (q : Passed RuleEntry) → slice_get spares k ≡ Some q
      → (q.name ≡ consts.rules) × (q.number ≡ consts.tasks + length consts.each_inode + k)
      × (q.mine ≡ [])

-- the closed inodes, and the passes that each other list takes back, in order
pub record AreReturned (world_inodes : List WorldInodeValue) (spares : List (Passed RuleEntry))
    (passes : List PassesValue) (inodes : List EndedInodeValue) (list_passes : List (Passed Entry))
    (signals : List (Passed Event)) (appenders : List (Passed RuleEntry)) : Type 0 where
  pub book : List (Passed Entry)
  pub closed : AllZip WorldInodeClosed world_inodes book
  pub inodes_are : inodes ≡ map ended_world_inode world_inodes
  pub list_passes_are : list_passes ≡ book ++ map (λ (p : PassesValue). p.book) passes
  pub signals_are : signals ≡ map (λ (p : PassesValue). p.sems) passes
  pub appenders_are : appenders ≡ map (λ (p : PassesValue). p.rules) passes
      ++ map (λ (s : WorldInodeValue). s.rules) world_inodes ++ spares

-- a placeholder for an inode that isn't there
abbrev pub no_inode_consts : InodeConsts
no_inode_consts = record { path = []; birth = nothing; place = 0; journal = no_name }

-- the name of the journal of this number
abbrev pub journal_name : WorldConsts → ℕ → ListName
journal_name consts i = (get_or consts.each_inode i no_inode_consts).journal

-- the closed lists of a world
pub record ListsValue : Type 0 where
  pub inodes : List EndedInodeValue
  pub list : List Entry
  pub banks : Banks
  pub rules : List RuleEntry

-- what is known of the closed lists, with the passes of the inodes and of the tasks
pub record WorldClosed (consts : WorldConsts) (world_inodes : List WorldInodeValue)
    (list : List Entry)
    (signals : List Event) (added : List RuleEntry) (tasks : List PassesValue) : Type 0 where
  pub inodes : List (Passed Entry)
  pub closed : AllZip WorldInodeClosed world_inodes inodes
  pub book : BookClosed consts.boot list (inodes ++ map (λ (p : PassesValue). p.book) tasks)
  pub entries : All IsEntry list
  pub are_signals : LegalSemaphores (newest_first signals)
  pub signed : All (λ e. (0 < caller_of e) × (caller_of e ≤ consts.tasks)) signals
  pub ruled : All (λ (r : RuleEntry). r.who.task < consts.tasks) added
