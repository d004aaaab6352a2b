-- The places that the grants of all calls name, as a table with a row for each task and a cell for
-- each of its calls.
use Rattle.std.specs.Prelude.{◌≡◌, ℕ, ◌==◌, Bool, false, List, length, map, Option, Some, None, slice_get, if◌then◌else◌}
use Rattle.std.specs.Option.{option_and_then, option_or}
use Rattle.script_text.specs.declared.blocks.TaskBlock.{TaskBlock}
use Rattle.script_text.specs.steps.declared.call.Call.{Call}
use Rattle.script_text.specs.steps.templates.declared.entry.Placed.{Placed}
use Rattle.script_text.specs.events.EndedInode.{EndedInodeValue}
use Rattle.script_text.specs.events.declared.told.Event.{Event}
use Rattle.run_laws.specs.kernel_reads.Reads.{is_of_call, place_of_call, placed_by, read_by}

-- the calls of each task
abbrev pub calls_in : List TaskBlock → List (List Call)
calls_in tasks = map (λ (t : TaskBlock). t.calls) tasks

-- ---- the calls

-- the inode that the kernel reads by call k of task n, if it reads one
abbrev pub read_at : List (List Call) → ℕ → ℕ → Option ℕ
read_at tasks n k =
    option_and_then read_by
    (option_and_then (λ (cs : List Call). slice_get cs k) (slice_get tasks n))

-- whether there is a number, and it is this one
abbrev pub is_some_of : ℕ → Option ℕ → Bool
is_some_of i None = false
is_some_of i (Some j) = j == i

-- whether the kernel reads this inode by call k of task n
abbrev pub reads : List (List Call) → ℕ → ℕ → ℕ → Bool
reads tasks n k i = is_some_of i (read_at tasks n k)

-- ---- the table

-- what a cell holds, if there is a cell
abbrev pub flat : Option (Option Placed) → Option Placed
flat None = None
flat (Some o) = o

-- the cell of call k of task n, which is empty beyond the table
abbrev pub cell : List (List (Option Placed)) → ℕ → ℕ → Option Placed
cell rows n k =
    flat (option_and_then (λ (row : List (Option Placed)). slice_get row k) (slice_get rows n))

-- a row for each task, a cell for each call
abbrev pub HasShape : List (List Call) → List (List (Option Placed)) → Type 0
HasShape tasks rows = map (λ (row : List (Option Placed)). length row) rows
    ≡ map (λ (cs : List Call). length cs) tasks

-- a cell keeps what it has; an empty one that reads this inode takes what the events name
abbrev pub noted : Bool → Option Placed → Option Placed → Option Placed
noted reading old named = if reading then option_or old named else old

-- the place that the event names, if it is of call k of task n
abbrev pub named_by : ℕ → ℕ → Event → Option Placed
named_by n k e = if is_of_call n k e then placed_by e.deed e.told else None

-- the place that the journal of the inode names for call k of task n
abbrev pub placed_at : ℕ → ℕ → Option EndedInodeValue → Option Placed
placed_at n k None = None
placed_at n k (Some inode) = place_of_call n k inode.journal

-- the place of call k of task n, given the inode that it reads
abbrev pub placed_in : List EndedInodeValue → ℕ → ℕ → Option ℕ → Option Placed
placed_in inodes n k None = None
placed_in inodes n k (Some i) = placed_at n k (slice_get inodes i)

-- each cell has the place of its call
pub record HasPlaces (tasks : List (List Call)) (inodes : List EndedInodeValue)
    (rows : List (List (Option Placed))) : Type 0 where
  pub shape : HasShape tasks rows
  pub cells : (n k : ℕ) → cell rows n k ≡ placed_in inodes n k (read_at tasks n k)
