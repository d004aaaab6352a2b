-- The kernel's own reads: the calls by which it reads a module or a firmware file.
use Rattle.std.specs.Prelude.{◌≡◌, ◌<◌, ℕ, ◌+◌, ◌==◌, Bool, true, ◌&&◌, List, [], ◌∷◌, ◌++◌, Contains, length, Option, Some, None, slice_get, if◌then◌else◌}
use Rattle.std.specs.Option.{option_or}
use Rattle.call_steps.specs.CallState.{is_done}
use Rattle.call_steps.specs.declared.call.Call.{Call}
use Rattle.call_steps.specs.declared.call.Call.TheVariants as call
use Rattle.call_steps.specs.declared.ending.Ending.{Ending}
use Rattle.call_steps.specs.declared.reply.Reply.{Reply}
use Rattle.call_steps.specs.declared.reply.Reply.TheVariants as reply
use Rattle.call_steps.specs.hashes.Digest.{digest_of}
use Rattle.call_steps.specs.hashes.declared.algo.Algo.TheVariants.{Sha256}
use Rattle.call_steps.specs.templates.declared.entry.Entry.{Entry}
use Rattle.call_steps.specs.templates.declared.entry.Placed.{Placed}
use Rattle.inode_events.specs.Admission.{fits, granted_file}
use Rattle.inode_events.specs.Callers.{caller_of}
use Rattle.inode_events.specs.Checks.{last_check}
use Rattle.inode_events.specs.Coverage.{ShowsContent, is_measuring, places_granted}
use Rattle.inode_events.specs.Inode.{Inode}
use Rattle.inode_events.specs.NewestFirst.{newest_first}
use Rattle.inode_events.specs.Says.{place_of}
use Rattle.inode_events.specs.State.{content}
use Rattle.inode_events.specs.declared.deed.Deed.{Deed}
use Rattle.inode_events.specs.declared.deed.Deed.TheVariants as deed
use Rattle.inode_events.specs.declared.deed.How.TheVariants as how
use Rattle.inode_events.specs.declared.told.Event.{Event}
use Rattle.inode_events.specs.declared.told.Grant.{Grant}
use Rattle.inode_events.specs.declared.told.Told.{Told}
use Rattle.inode_events.specs.declared.told.Told.TheVariants as told
use Rattle.inode_events.specs.meta.declared.appraisal.Mode.TheVariants.{Enforce}
use Rattle.inode_events.specs.meta.declared.step.Who.{Who}
use Rattle.inode_events.specs.pages.Content.{bytes_at, most_bytes}
use Rattle.run_laws.specs.shown.Places.{HasForms}
use Rattle.journal_laws.specs.Executed.{IsUndisturbed, grant_event, is_check_of}
use Rattle.run_model.specs.History.{Position}
use Rattle.run_model.specs.Scene.{Program, Scene, ScriptFile, inode_of}
use Rattle.run_model.specs.Served.{Run}
use Rattle.run_model.specs.Shown.{IsShown}

-- ---- the calls and their events

-- the inode that the kernel reads by the call
abbrev pub read_by : Call → Option ℕ
read_by (call.Module inode) = Some inode
read_by (call.Firmware inode) = Some inode
read_by _ = None

-- the event is of a step of call k of task n
abbrev pub is_of_call : ℕ → ℕ → Event → Bool
is_of_call n k e = (caller_of e == n + 1) && (e.who.call == k)

-- the event of such a step
abbrev pub call_event : ℕ → ℕ → ℕ → Deed → Told → Event
call_event n k step d t =
    record { who = record { task = n; call = k; step = step }; deed = d; told = t }

-- the place in the list that the event's grant names
abbrev pub placed_by : Deed → Told → Option Placed
placed_by (deed.Take file) (told.Grant grant) = grant.placed
placed_by (deed.Finish file) (told.Grant grant) = grant.placed
placed_by _ _ = None

-- the place that a grant of the call names, by the journal of the inode that the call reads
abbrev pub place_of_call : ℕ → ℕ → List Event → Option Placed
place_of_call n k [] = None
place_of_call n k (e ∷ events) = option_or
    (if is_of_call n k e then placed_by e.deed e.told else None) (place_of_call n k events)

-- the reply of a read of all that these bytes are
abbrev pub reply_with : List ℕ → Reply
reply_with bytes = reply.Bytes (length bytes) (digest_of Sha256 bytes)

-- ---- a call by which the kernel has read a file

-- What holds of call k of task n, which read an inode with this journal and was answered with `r`.
-- Events are newest first. A split of the journal's past is a place in it.
pub record IsReadSoundly (inode : Inode) (list : List Entry) (journal : List Event) (n k : ℕ)
    (r : Reply) : Type 0 where
  -- the call has counted its file as an execution, and the count's place names the file
  pub file : ℕ
  pub first : ℕ
  pub counted : slice_get journal file ≡ Some (call_event n k first (deed.Count how.Exec) told.Held)
  -- the call has closed its file; `before` are the events before the close, the count among them
  pub last : ℕ
  pub later : List Event
  pub before : List Event
  pub closed : newest_first journal ≡ later
      ++ call_event n k last (deed.Close file) told.Dropped ∷ before
  pub within : file < length before
  -- between the two there was no write or truncation of the inode, done or refused; the content was
  -- the same; and so were all facts of a file that is held as an execution
  pub undisturbed : IsUndisturbed inode list file before
  -- the reply is that of a read of this content
  pub replied : r ≡ reply_with (bytes_at (content before) 0 most_bytes)
  -- no violation is told in the call's checks
  pub quiet : (l : List Event) (e : Event) (q : List Event) (g : ℕ)
      → newest_first journal ≡ l ++ e ∷ q
      → is_of_call n k e ≡ true → is_check_of g e.deed ≡ true → e.told ≡ told.Quiet
  -- for each check of the file whose action measures, a later grant of the file names a place, and
  -- the entry there is no violation and has the digest of the content
  pub answered : (l : List Event) (check : Event) (q : List Event) → before ≡ l ++ check ∷ q
      → is_measuring file check.deed ≡ true
      → (place : ℕ) × (Contains (places_granted file l) place
      × ShowsContent inode list (content before) place)
  -- a grant of the call whose check measures names a place in the list
  pub measured : (l q : List Event) (who : Who) (d : Deed) (grant : Grant) (g : ℕ)
      → newest_first journal ≡ l ++ grant_event who d grant ∷ q
      → is_of_call n k (grant_event who d grant) ≡ true → granted_file d ≡ Some g
      → (last_check g q).action.measure ≡ true
      → (placed : Placed) × (grant.placed ≡ Some placed)
  -- the entry at the place that the call's grant names is no violation, and has the digest of the
  -- very content that the call has read
  pub listed : (placed : Placed) → place_of_call n k journal ≡ Some placed
      → ShowsContent inode list (content before) (place_of placed)
  -- each grant of the call admits the file
  pub admitted : (l q : List Event) (who : Who) (d : Deed) (grant : Grant) (g : ℕ)
      → newest_first journal ≡ l ++ grant_event who d grant ∷ q
      → is_of_call n k (grant_event who d grant) ≡ true → granted_file d ≡ Some g
      → grant.admitted ≡ true
  -- in mode enforce, if the action of the call's check appraises, the file with that content fits
  -- at the step of the grant
  pub fitting : inode.settings.mode ≡ Enforce → (l q : List Event) (who : Who) (d : Deed)
      (grant : Grant) (g : ℕ) → newest_first journal ≡ l ++ grant_event who d grant ∷ q
      → is_of_call n k (grant_event who d grant) ≡ true → granted_file d ≡ Some g
      → (last_check g q).action.appraise ≡ true
      → (fits inode (last_check g q).action q ≡ true) × (content q ≡ content before)

-- ---- a shown run

-- each module and firmware call that was answered with `ok` has read its file soundly
abbrev pub AreKernelReadsSound : Scene → Run → Type 0
AreKernelReadsSound scene run =
    (n k i : ℕ) (p : Program) (c : Call) (t : Position) (r : Reply) (script_file : ScriptFile)
    (journal : List Event)
    → slice_get scene.programs n ≡ Some p → slice_get p.calls k ≡ Some c → read_by c ≡ Some i
    → slice_get run.positions n ≡ Some t → slice_get t.replies k ≡ Some r → is_done r ≡ true
    → slice_get scene.script_files i ≡ Some script_file → slice_get run.journals i ≡ Some journal
    → IsReadSoundly (inode_of scene script_file) run.list journal n k r

-- so it is in every shown run
abbrev pub KernelReadsSoundly : Type 0
KernelReadsSoundly = (scene : Scene) (ending : Ending) (run : Run) → IsShown scene ending run
    → HasForms scene → AreKernelReadsSound scene run
