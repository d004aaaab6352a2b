-- The calls of the tasks and their replies in a page.
use Rattle.std.specs.Prelude.{ℕ, ◌+◌, ◌-◌, nat_lt, not, Bool, true, false, List, [], ◌∷◌, ◌++◌, length, replicate, slice_get, take, Option, Some, None, if◌then◌else◌}
use Rattle.view_page.specs.declared.own.Side.{Side}
use Rattle.view_page.specs.journals.reading.Report.{InodeValue, TaskValue}
use Rattle.view_page.specs.journals.reading.words.declared.event.Span.{Span}
use Rattle.view_page.specs.journals.reading.lines.declared.report.InodeHead.{InodeHead}
use Rattle.view_page.specs.journals.reading.lines.declared.report.Reply.{Reply}
use Rattle.view_tables.specs.Entries.{first_shown, is_shown, joined, said}
use Rattle.view_plan.specs.Order.{counted}
use Rattle.view_page.specs.Parts.{more}
use Rattle.view_plan.specs.Plan.{is_drawn}
use Rattle.view_plan.specs.Slots.{filled}
use Rattle.view_page.specs.Words.{after_word, cut, path}
use Rattle.view_page.specs.declared.html.Table.TheVariants as table
use Rattle.view_page.specs.declared.part.Part.{Part}
use Rattle.view_page.specs.declared.part.Part.TheVariants as part
use Rattle.view_plan.specs.declared.plan.Shown.{Shown}
use Rattle.view_plan.specs.declared.slots.Asked.TheVariants as asked
use Rattle.view_plan.specs.declared.slots.At.{At}

-- of the calls of a task that weren't ok at most as many are shown
abbrev pub most_refused : ℕ
most_refused = 50

-- no more tasks are shown
abbrev pub most_tasks : ℕ
most_tasks = 64

-- ---- a call

-- its number, with a link to its first event if the page draws it
abbrev pub call_link : Side → At → ℕ → List Part
call_link side at call =
    part.Table table.Link ∷ part.Side side ∷ part.Table table.I ∷ part.Number at.inode
    ∷ part.Table table.E ∷ part.Number at.place ∷ part.Table table.Shown ∷ part.Number call
    ∷ part.Table table.LinkEnd ∷ []

abbrev pub linked : Side → List Shown → At → ℕ → List Part
linked side shown at call =
    if is_drawn at shown then call_link side at call else part.Number call ∷ []

abbrev pub path_of : List ℕ → InodeHead → List Part
path_of text head = said (cut 80 (path text head))

abbrev pub path_said : List ℕ → Option InodeValue → List Part
path_said text (Some i) = path_of text i.head
path_said text None = []

-- the number, the first event, the path of its inode
abbrev pub call_by : List ℕ → Side → List Shown → List InodeValue → At → ℕ → List Part
call_by text side shown inodes at call =
    linked side shown at call
    ++ said (cut 80 (after_word text (after_word text at.line)))
    ++ path_said text (slice_get inodes at.inode)

abbrev pub no_event : ℕ → List Part
no_event call = part.Number call ∷ part.Table table.NoEvent ∷ []

abbrev pub call_at : List ℕ → Side → List Shown → List InodeValue → Option At → ℕ → List Part
call_at text side shown inodes (Some at) call = call_by text side shown inodes at call
call_at text side shown inodes None call = no_event call

abbrev pub chip_is : Bool → Part
chip_is true = part.Table table.Chip
chip_is false = part.Table table.ChipNo

abbrev pub reply : List ℕ → Span → List Part
reply text line =
    part.Table table.Reply ∷ part.Text (cut 200 (after_word text line)) ∷ part.Table table.Shown
    ∷ part.Text (cut 24 (after_word text line)) ∷ part.Table table.ReplyEnd ∷ []

abbrev pub chip : List ℕ → Side → List Shown → List InodeValue → Option At → ℕ → Reply
    → List Part
chip text side shown inodes at call r =
    chip_is r.ok ∷ [] ++ call_at text side shown inodes at call ++ reply text r.line

-- ---- the calls of a task

-- the call after so many that weren't ok, if it is shown
abbrev pub chip_by : Bool → List ℕ → Side → List Shown → List InodeValue → Option At → ℕ → Reply
    → List Part
chip_by true text side shown inodes at call r = chip text side shown inodes at call r
chip_by false text side shown inodes at call r = []

abbrev pub chip_at : List ℕ → Side → List Shown → List InodeValue → List (Option At) → ℕ → ℕ
    → Reply → List Part
chip_at text side shown inodes firsts marks call r =
    chip_by (is_shown most_refused call marks (not r.ok)) text side shown inodes
    (joined (slice_get firsts call)) call r

-- these calls, the first of which has this number, after so many that weren't ok
abbrev pub chips_from : List ℕ → Side → List Shown → List InodeValue → List (Option At) → ℕ → ℕ
    → List Reply → List Part
chips_from text side shown inodes firsts marks call [] = []
chips_from text side shown inodes firsts marks call (r ∷ rs) =
    chip_at text side shown inodes firsts marks call r
    ++ chips_from text side shown inodes firsts (counted (not r.ok) marks) (call + 1) rs

-- for each of so many calls of the task, its first event
abbrev pub firsts : ℕ → ℕ → List InodeValue → List (Option At)
firsts task calls inodes = filled (asked.Calls task) (replicate calls None) inodes

abbrev pub chips : List ℕ → Side → List Shown → List InodeValue → ℕ → List Reply → List Part
chips text side shown inodes task rs =
    chips_from text side shown inodes (firsts task (length rs) inodes) 0 0 rs

-- of many calls it is said which are shown
abbrev pub cut_calls : ℕ → List Part
cut_calls n =
    if nat_lt first_shown n
    then part.Table table.Calls ∷ part.Number n ∷ part.Table table.CallsEnd ∷ [] else []

-- the call at which a task stands at the end
abbrev pub waits : Bool → ℕ → List Part
waits true call = []
waits false call =
    part.Table table.Wait ∷ part.Number call ∷ part.Table table.WaitEnd ∷ []

abbrev pub task_head : ℕ → List Part
task_head number = part.Table table.TaskRow ∷ part.Number number ∷ part.Table table.Cell ∷ []

abbrev pub task_by : List ℕ → Side → List Shown → List InodeValue → ℕ → Bool → List Reply
    → List Part
task_by text side shown inodes number done rs =
    task_head number
    ++ chips text side shown inodes number rs
    ++ cut_calls (length rs)
    ++ waits done (length rs)
    ++ part.Table table.RowEnd ∷ []

-- ---- the tasks

abbrev pub task : List ℕ → Side → List Shown → List InodeValue → ℕ → TaskValue → List Part
task text side shown inodes number t =
    task_by text side shown inodes number t.done t.replies

-- the tasks, the first of which has this number
abbrev pub tasks_from : List ℕ → Side → List Shown → List InodeValue → ℕ → List TaskValue
    → List Part
tasks_from text side shown inodes number [] = []
tasks_from text side shown inodes number (t ∷ ts) =
    task text side shown inodes number t
    ++ tasks_from text side shown inodes (number + 1) ts

abbrev pub calls : List ℕ → Side → List Shown → List InodeValue → List TaskValue → List Part
calls text side shown inodes ts =
    part.Table table.Replies ∷ []
    ++ tasks_from text side shown inodes 0 (take most_tasks ts)
    ++ part.Table table.TableEnd ∷ []
    ++ more (part.Table table.More) (length ts - most_tasks) (part.Table table.MoreEnd)
