-- The page of a report, and that of one inode.
use Rattle.std.specs.Prelude.{ℕ, List, [], ◌∷◌, ◌++◌, length, replicate, take, Option, Some, None}
use Rattle.view_page.specs.declared.own.Side.{Side}
use Rattle.view_page.specs.declared.own.Side.TheVariants as side
use Rattle.view_page.specs.journals.declared.window.Window.{Window}
use Rattle.view_page.specs.journals.reading.Report.{InodeValue, ReportValue, TaskValue}
use Rattle.view_page.specs.journals.reading.words.declared.event.Event.{Event}
use Rattle.view_page.specs.journals.reading.words.declared.event.Span.{Span}
use Rattle.view_tables.specs.Calls.{calls}
use Rattle.view_tables.specs.Entries.{entries}
use Rattle.view_tables.specs.Frame.{head, tiles}
use Rattle.view_plan.specs.Order.{order}
use Rattle.view_page.specs.Parts.{more}
use Rattle.view_plan.specs.Plan.{beyond, most_sections, planned, windows_of}
use Rattle.view_pages.specs.Section.{section_of, view_of}
use Rattle.view_pages.specs.Sections.{sections}
use Rattle.view_plan.specs.Slots.{filled}
use Rattle.view_tables.specs.Tables.{registers, rules}
use Rattle.view_page.specs.declared.html.Frame.TheVariants as frame
use Rattle.view_page.specs.declared.html.Section.TheVariants as section
use Rattle.view_page.specs.declared.part.Part.{Part}
use Rattle.view_page.specs.declared.part.Part.TheVariants as part
use Rattle.view_plan.specs.declared.plan.Shown.{Shown}
use Rattle.view_pages.specs.declared.section.Detail.TheVariants as detail
use Rattle.view_plan.specs.declared.slots.Asked.TheVariants as asked
use Rattle.view_plan.specs.declared.slots.At.{At}

-- for each of so many entries, the event that added it
abbrev pub added : ℕ → List InodeValue → List (Option At)
added n inodes = filled asked.Entries (replicate n None) inodes

abbrev pub list_parts : List ℕ → Side → List Shown → List InodeValue → List Span → List Part
list_parts text s ss inodes lines = entries text s ss (added (length lines) inodes) lines

-- the list, the registers, the appended rules, the calls
abbrev pub tables_by : List ℕ → Side → List Shown → List InodeValue → List Span → List Span
    → List Span → List TaskValue → List Part
tables_by text s ss inodes lines pcrs appended tasks =
    list_parts text s ss inodes lines
    ++ registers text pcrs
    ++ rules text appended
    ++ calls text s ss inodes tasks

-- what stands below the inodes; events that none of the windows shows have no link
abbrev pub tables : List ℕ → Side → List Shown → ReportValue → List Part
tables text s ss r = tables_by text s ss r.inodes r.entries r.registers r.rules r.tasks

-- the page with these windows of these inodes, and without so many other inodes
abbrev pub planned_parts : List ℕ → List Shown → List ℕ → ℕ → ReportValue → List Part
planned_parts text ss ns others r =
    head frame.OneRun
    ++ tiles r
    ++ sections text side.Alone ss r.inodes ns
    ++ more (part.Section section.MoreInodes) others (part.Section section.MoreInodesEnd)
    ++ tables text side.Alone ss r
    ++ part.Frame frame.End ∷ []

-- the page with the first inodes of this order
abbrev pub ordered_parts : List ℕ → List ℕ → ReportValue → List Part
ordered_parts text ns r =
    planned_parts text (planned r.inodes (take most_sections ns)) (take most_sections ns)
    (beyond ns) r

-- the page of a report
abbrev pub report_parts : List ℕ → ReportValue → List Part
report_parts text r = ordered_parts text (order r.inodes) r

abbrev pub windows_or : Option Window → List Event → List Window
windows_or None journal = windows_of journal
windows_or (Some w) journal = w ∷ []

abbrev pub inode_parts : List ℕ → ℕ → InodeValue → List Window → List Part
inode_parts text number i ws =
    head frame.OneRun
    ++ section_of text detail.Overview (view_of side.Alone number) ws i
    ++ part.Frame frame.End ∷ []

-- the page of an inode with this number, or of a range of its journal
abbrev pub inode_page_parts : List ℕ → ℕ → InodeValue → Option Window → List Part
inode_page_parts text number i range = inode_parts text number i (windows_or range i.events)
