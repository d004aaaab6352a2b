-- What the table says of a call whose check measures.
use Rattle.std.specs.Prelude.{◌≡◌, ℕ, true, List, [], ◌∷◌, ◌++◌, Some, slice_get}
use Rattle.report_text.specs.Words.{Line}
use Rattle.script_text.specs.events.Admission.{granted_file}
use Rattle.script_text.specs.events.Checks.{last_check}
use Rattle.script_text.specs.events.Coverage.{ShowsContent}
use Rattle.script_text.specs.events.Inode.{Inode}
use Rattle.script_text.specs.events.NewestFirst.{newest_first}
use Rattle.script_text.specs.events.Says.{place_of}
use Rattle.script_text.specs.events.declared.deed.Deed.{Deed}
use Rattle.script_text.specs.events.declared.told.Event.{Event}
use Rattle.script_text.specs.events.declared.told.Grant.{Grant}
use Rattle.script_text.specs.events.meta.declared.step.Who.{Who}
use Rattle.script_text.specs.events.pages.Content.{bytes_at, most_bytes}
use Rattle.script_text.specs.steps.CallState.{is_done}
use Rattle.script_text.specs.steps.declared.call.Call.{Call}
use Rattle.script_text.specs.steps.declared.ending.Ending.{Ending}
use Rattle.script_text.specs.steps.declared.reply.Reply.{Reply}
use Rattle.script_text.specs.steps.templates.declared.entry.Entry.{Entry}
use Rattle.script_text.specs.steps.templates.declared.entry.Placed.{Placed}
use Rattle.run_laws.specs.kernel_reads.Reads.{is_of_call, read_by, reply_with}
use Rattle.run_laws.specs.laws_of_journals.Executed.{grant_event}
use Rattle.run_laws.specs.shown.Places.{HasForms}
use Rattle.run_laws.specs.model.EndedValue.{ended_of}
use Rattle.run_laws.specs.model.History.{Position}
use Rattle.run_laws.specs.model.Scene.{Program, Scene, ScriptFile, inode_of}
use Rattle.run_laws.specs.model.Served.{Run}
use Rattle.run_laws.specs.model.Shown.{IsShown}
use Rattle.kernel_read.specs.Table.{call_line, func_raised, load_line}

-- The lines of call k of task n, which read this inode and was answered with `r`: there is one, and
-- its place isn't `-`. The entry at the place shows the content of which the reply speaks.
pub record ShowsRead (inode : Inode) (list : List Entry) (n k : ℕ) (c : Call) (r : Reply)
    (lines : List Line) : Type 0 where
  pub place : Placed
  pub line : lines ≡ load_line n k (func_raised c) inode.path (Some place) r ∷ []
  pub bytes : List ℕ
  pub replied : r ≡ reply_with (bytes_at bytes 0 most_bytes)
  -- the entry is no violation and has the digest of the content
  pub shows : ShowsContent inode list bytes (place_of place)

-- In each shown run: if a module or firmware call was answered with `ok`, and the last check before
-- its grant measures, then the table has the call with a place that shows what it has read. A split
-- of the journal's past is a place in it.
abbrev pub MeasuredReadsAreListed : Type 0
MeasuredReadsAreListed =
    (scene : Scene) (ending : Ending) (run : Run) → IsShown scene ending run → HasForms scene
    → (n k i : ℕ) (p : Program) (c : Call) (t : Position) (r : Reply) (script_file : ScriptFile)
    (journal : List Event)
    → slice_get scene.programs n ≡ Some p → slice_get p.calls k ≡ Some c → read_by c ≡ Some i
    → slice_get run.positions n ≡ Some t → slice_get t.replies k ≡ Some r → is_done r ≡ true
    → slice_get scene.script_files i ≡ Some script_file → slice_get run.journals i ≡ Some journal
    → (l q : List Event) (who : Who) (d : Deed) (grant : Grant) (g : ℕ)
    → newest_first journal ≡ l ++ grant_event who d grant ∷ q
    → is_of_call n k (grant_event who d grant) ≡ true → granted_file d ≡ Some g
    → (last_check g q).action.measure ≡ true
    → ShowsRead (inode_of scene script_file) run.list n k c r
    (call_line (ended_of scene run).inodes n k c r (read_by c))
