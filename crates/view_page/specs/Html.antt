-- The bytes of pages that are the program's own.
use Rattle.std.specs.Prelude.{ℕ, List, [], ◌∷◌, ◌++◌, codes}
use Rattle.view_page.specs.declared.html.Frame.{Frame}
use Rattle.view_page.specs.declared.html.Frame.TheVariants as frame
use Rattle.view_page.specs.declared.html.Section.{Section}
use Rattle.view_page.specs.declared.html.Section.TheVariants as section
use Rattle.view_page.specs.declared.html.Table.{Table}
use Rattle.view_page.specs.declared.html.Table.TheVariants as table

-- the frame of a page, and its headings
abbrev pub frame_bytes : Frame → List ℕ
frame_bytes frame.Begin =
    codes "<!doctype html>" ++ 10 ∷ []
    ++ codes "<html lang=\"en\"><head><meta charset=\"utf-8\">" ++ 10 ∷ []
    ++ codes "<title>imakern report</title><style>" ++ 10 ∷ []
frame_bytes frame.Body =
    codes "</style></head>" ++ 10 ∷ []
    ++ codes "<body>" ++ 10 ∷ []
frame_bytes frame.End = codes "</body></html>" ++ 10 ∷ []
frame_bytes frame.OneRun = codes "<h1>Report of a run</h1>" ++ 10 ∷ []
frame_bytes frame.TwoRuns =
    codes "<h1>Two runs of one script</h1>" ++ 10 ∷ []
    ++ codes "<p class=\"soft\">Yellow: an event that is told another thing in the other run. "
    ++ codes "Violet: where the two journals of an inode part.</p>" ++ 10 ∷ []
frame_bytes frame.First = codes "<h2>first</h2>" ++ 10 ∷ []
frame_bytes frame.Second = codes "<h2>second</h2>" ++ 10 ∷ []
frame_bytes frame.Both = codes "<div class=\"two\"><div><h1>first</h1>" ++ 10 ∷ []
frame_bytes frame.Beside = codes "</div><div><h1>second</h1>" ++ 10 ∷ []
frame_bytes frame.BothEnd = codes "</div></div>" ++ 10 ∷ []
frame_bytes frame.Tiles = codes "<div class=\"tiles\">" ++ 10 ∷ []
frame_bytes frame.TilesEnd = codes "</div>" ++ 10 ∷ []
frame_bytes frame.Tile = codes "<div class=\"tile\">"
frame_bytes frame.Hot = codes "<div class=\"tile hot\">"
frame_bytes frame.TileEnd = codes "</b></div>" ++ 10 ∷ []
frame_bytes frame.Run = codes "run<b>"
frame_bytes frame.Entries = codes "list entries<b>"
frame_bytes frame.Violations = codes "violations<b>"
frame_bytes frame.Refused = codes "refused calls<b>"
frame_bytes frame.Inodes = codes "inodes<b>"
frame_bytes frame.Tasks = codes "tasks<b>"
frame_bytes frame.Events = codes "events<b>"
frame_bytes frame.Done = codes "done"
frame_bytes frame.Unfinished = codes "unfinished"
frame_bytes frame.Stuck = codes "stuck"

-- the section of an inode
abbrev pub section_bytes : Section → List ℕ
section_bytes section.Inode = codes "<h2>inode "
section_bytes section.Path = codes " <code title=\""
section_bytes section.Shown = codes "\">"
section_bytes section.Length = codes "</code> <span class=\"soft\">"
section_bytes section.Event = codes " event</span>"
section_bytes section.Events = codes " events</span>"
section_bytes section.Bad = codes " <span class=\"bad\">"
section_bytes section.Violation = codes " violation</span>"
section_bytes section.Violations = codes " violations</span>"
section_bytes section.Denials = codes " denied or labelled</span>"
section_bytes section.Same = codes " <span class=\"soft\">the same journal in both</span>"
section_bytes section.IsFirst = codes " <span class=\"which\">first</span>"
section_bytes section.IsSecond = codes " <span class=\"which\">second</span>"
section_bytes section.Close = codes "</h2>" ++ 10 ∷ []
section_bytes section.Birth = codes "<p class=\"soft\">no event but its birth</p>" ++ 10 ∷ []
section_bytes section.Wide = codes "<div class=\"wide\">" ++ 10 ∷ []
section_bytes section.WideEnd = codes "</div>" ++ 10 ∷ []
section_bytes section.NotDrawn = codes "<p class=\"soft\">not drawn: use <code>inode "
section_bytes section.NotDrawnEnd = codes "</code></p>" ++ 10 ∷ []
section_bytes section.AtEnd = codes "<p class=\"soft\">at the end: writers "
section_bytes section.Readers = codes ", readers "
section_bytes section.Execs = codes ", execs "
section_bytes section.Force = codes "; digest in force <code title=\""
section_bytes section.Attr = codes "; <code title=\""
section_bytes section.AttrIs = codes "="
section_bytes section.Code = codes "</code>"
section_bytes section.More = codes "; and "
section_bytes section.MoreAttrs = codes " more"
section_bytes section.ParaEnd = codes "</p>" ++ 10 ∷ []
section_bytes section.MoreInodes = codes "<p class=\"soft\">and "
section_bytes section.MoreInodesEnd = codes " more: use <code>inode I</code></p>" ++ 10 ∷ []

-- the list, the registers, the appended rules and the replies
abbrev pub table_bytes : Table → List ℕ
table_bytes table.List =
    codes "<h2>Measurement list</h2>" ++ 10 ∷ []
    ++ codes "<div class=\"wide\"><table><tr><th>#</th><th>PCR</th><th>template</th>"
    ++ codes "<th>file digest</th><th>name</th><th>added by</th></tr>" ++ 10 ∷ []
table_bytes table.Row = codes "<tr id=\""
table_bytes table.Entry = codes "entry"
table_bytes table.RowIs = codes "\"><td>"
table_bytes table.RowViolates = codes "\" class=\"viol\"><td>"
table_bytes table.Cell = codes "</td><td>"
table_bytes table.HexCell = codes "</td><td class=\"h\">"
table_bytes table.TitleCell = codes "</td><td class=\"h\" title=\""
table_bytes table.Shown = codes "\">"
table_bytes table.Violation = codes "</td><td class=\"h\"><span class=\"bad\">violation</span>"
table_bytes table.RowEnd = codes "</td></tr>" ++ 10 ∷ []
table_bytes table.ListEnd = codes "</table></div>" ++ 10 ∷ []
table_bytes table.Hidden = codes "<p class=\"soft\">Of "
table_bytes table.HiddenEnd =
    codes " entries the first 50 and the first 150 violations are shown.</p>" ++ 10 ∷ []
table_bytes table.Boot = codes "boot"
table_bytes table.ByNone = codes "-"
table_bytes table.Inode = codes "inode "
table_bytes table.Link = codes "<a href=\"#"
table_bytes table.I = codes "i"
table_bytes table.E = codes "-e"
table_bytes table.LinkIs = codes "\">inode "
table_bytes table.LinkPlace = codes " event "
table_bytes table.LinkEnd = codes "</a>"
table_bytes table.Said = codes " <span class=\"soft\">"
table_bytes table.SpanEnd = codes "</span>"
table_bytes table.Registers =
    codes "<table><tr><th>bank</th><th>PCR</th><th>value</th></tr>" ++ 10 ∷ []
table_bytes table.BankRow = codes "<tr><td>"
table_bytes table.TableEnd = codes "</table>" ++ 10 ∷ []
table_bytes table.Rules =
    codes "<h2>Rules appended during the run</h2>" ++ 10 ∷ []
    ++ codes "<table>" ++ 10 ∷ []
table_bytes table.RuleRow = codes "<tr><td class=\"h\">"
table_bytes table.More = codes "<p class=\"soft\">and "
table_bytes table.MoreEnd = codes " more</p>" ++ 10 ∷ []
table_bytes table.Replies =
    codes "<h2>Calls and replies</h2>" ++ 10 ∷ []
    ++ codes "<table>" ++ 10 ∷ []
table_bytes table.TaskRow = codes "<tr><td>task&nbsp;"
table_bytes table.Chip = codes "<span class=\"chip\">"
table_bytes table.ChipNo = codes "<span class=\"chip no\">"
table_bytes table.NoEvent = codes " <span class=\"soft\">no event</span>"
table_bytes table.Reply = codes " <b title=\""
table_bytes table.ReplyEnd = codes "</b></span>"
table_bytes table.Wait = codes "<span class=\"chip wait\">"
table_bytes table.WaitEnd = codes " stands here at the end</span>"
table_bytes table.Calls = codes "<span class=\"chip\">of "
table_bytes table.CallsEnd =
    codes " calls the first 50 and the first 50 refused are shown</span>"
