-- Calls with all their steps.
use Rattle.std.proofs.Common.{◌≡◌, true, false, List, [], ◌∷◌, Option, Some, None, refl}
use Rattle.inode_events.specs.hashes.declared.algo.Algo.TheVariants.{Sha256}
use Rattle.inode_events.specs.hashes.DigestValue.{DigestValue}
use Rattle.inode_events.specs.hashes.Digest.{zero_digest}
use Rattle.inode_events.specs.templates.declared.entry.Placed.TheVariants.{Added}
use Rattle.inode_events.specs.meta.declared.appraisal.Mode.{Mode}
use Rattle.inode_events.specs.meta.declared.appraisal.Mode.TheVariants as mode
use Rattle.inode_events.specs.meta.declared.appraisal.Slot.TheVariants as slot
use Rattle.inode_events.specs.labels.declared.verdict.Cause.TheVariants.{MissingHash}
use Rattle.inode_events.specs.labels.declared.verdict.Verdict.TheVariants.{Deny}
use Rattle.inode_events.specs.policy.declared.access.Action.{Action}
use Rattle.inode_events.specs.policy.declared.rule.Func.TheVariants as func
use Rattle.inode_events.specs.Checks.{no_action}
use Rattle.inode_events.specs.declared.deed.How.TheVariants as how
use Rattle.inode_events.specs.declared.told.Told.{Told}
use Rattle.inode_events.specs.declared.told.Told.TheVariants as told
use Rattle.call_steps.specs.Handles.{hand_of}
use Rattle.call_steps.specs.Steps.{first, next}
use Rattle.call_steps.specs.declared.ask.Ask.{Ask}
use Rattle.call_steps.specs.declared.ask.Ask.TheVariants as ask
use Rattle.call_steps.specs.declared.call.Call.{Call}
use Rattle.call_steps.specs.declared.call.Call.TheVariants as call
use Rattle.call_steps.specs.declared.held.Handle.{Handle}
use Rattle.call_steps.specs.declared.held.Name.{Name}
use Rattle.call_steps.specs.declared.held.Name.TheVariants as name
use Rattle.call_steps.specs.declared.reply.Reply.{Reply}
use Rattle.call_steps.specs.declared.reply.Reply.TheVariants as reply
use Rattle.call_steps.specs.declared.due.Next.{Next}
use Rattle.call_steps.specs.declared.due.Next.TheVariants.{On, Over}

-- the outcome of a step, and for a check its action
abbrev StepTold : Type 0
StepTold = Told × Action

abbrev plain : Told → StepTold
plain t = (t, no_action)

abbrev measured : Told → StepTold
measured t = (t, record no_action { measure = true })

abbrev appraised : Told → StepTold
appraised t = (t, record no_action { appraise = true })

-- the steps of a call that is given these outcomes, one after the other, and its reply
abbrev steps_from : Mode → Call → Next → List StepTold → List Ask × Option Reply
steps_from mode c (Over r) heard = ([], Some r)
steps_from mode c (On s) [] = (s.ask ∷ [], None)
steps_from mode c (On s) (h ∷ hs) =
    let more = steps_from mode c (next mode c s h.0 h.1) hs in (s.ask ∷ more.0, more.1)

abbrev steps : Mode → List Handle → Call → List StepTold → List Ask × Option Reply
steps mode handles c heard = steps_from mode c (On (first c (hand_of false handles c))) heard

-- a file that was opened for reading, under this name
abbrev reader : Name → Handle
reader n = record { name = n; inode = 0; file = 1; how = how.Read false }

abbrev writer : Name → Handle
writer n = record { name = n; inode = 0; file = 1; how = how.Write true false }

abbrev digest : DigestValue
digest = zero_digest Sha256

-- an open that measures: two pieces, and the entry is added
measuring_open : steps mode.Off [] (call.Open 0 0 (how.Read false) false)
    (plain told.Held ∷ measured told.Quiet ∷ plain told.Begun ∷ plain told.More ∷ plain told.Last
    ∷ plain (told.Grant
    (record { placed = Some (Added 1); verdict = None; admitted = true; labelled = false })) ∷ [])
    ≡ (
      ask.Count ∷ ask.Check func.FileCheck 4 ∷ ask.Take slot.File ∷ ask.Chunk ∷ ask.Chunk
          ∷ ask.Finish ∷ [],
      Some reply.Done,
    )
measuring_open = refl

-- an open for writing that appraisal refuses: its file is closed again, and nothing is cut
refused_open : steps mode.Enforce [] (call.Open 0 0 (how.Write false false) true)
    (plain told.Held ∷ appraised told.Quiet ∷ plain told.Begun ∷ plain told.Last
    ∷ plain (told.Grant
    (record {
      placed = None;
      verdict = Some (Deny MissingHash);
      admitted = false;
      labelled =
          false;
    }))
    ∷ plain told.Begun ∷ plain told.Last ∷ plain told.LabelledDropped ∷ [])
    ≡ (
      ask.Count ∷ ask.Check func.FileCheck 2 ∷ ask.Take slot.File ∷ ask.Chunk ∷ ask.Finish
          ∷ ask.CloseTake ∷ ask.CloseChunk
          ∷ ask.CloseFinish ∷ [],
      Some (reply.Denied MissingHash),
    )
refused_open = refl

-- an open for writing that no rule concerns truncates at once
cut_open : steps mode.Enforce [] (call.Open 0 0 (how.Write false false) true) (plain told.Held
    ∷ plain told.Quiet ∷ plain told.Done ∷ [])
    ≡ (ask.Count ∷ ask.Check func.FileCheck 2 ∷ ask.Trunc 0 ∷ [], Some reply.Done)
cut_open = refl

-- in mode off only a rule that measures asks for a take
off_open : steps mode.Off [] (call.Open 0 0 (how.Read false) false) (plain told.Held
    ∷ appraised told.Quiet ∷ [])
    ≡ (ask.Count ∷ ask.Check func.FileCheck 4 ∷ [], Some reply.Done)
off_open = refl

-- a descriptor open for both is mapped for execution: nothing is counted, and a refusal closes
-- nothing
mapped : steps mode.Enforce (writer (name.Descriptor 0) ∷ []) (call.Mmap 0 0 true)
    (appraised told.Quiet
    ∷ plain (told.Grant
    (record {
      placed = None;
      verdict = Some (Deny MissingHash);
      admitted = false;
      labelled =
          false;
    })) ∷ [])
    ≡ (ask.Check func.MmapCheck 1 ∷ ask.Take slot.Mmap ∷ [], Some (reply.Denied MissingHash))
mapped = refl

-- of two names the first to be closed leaves the file open, and the last closes it
close_of_two : steps mode.Off (reader (name.Descriptor 0) ∷ reader (name.Map 0) ∷ []) (call.Close 0)
    (plain told.Nothing ∷ [])
    ≡ (ask.Plain ∷ [], Some reply.Done)
close_of_two = refl

last_close : steps mode.Off (reader (name.Map 0) ∷ []) (call.Munmap 0) (plain told.Dropped ∷ [])
    ≡ (ask.Close ∷ [], Some reply.Done)
last_close = refl

-- an execution reads the whole file, and keeps it
executed : steps mode.Off [] (call.Exec 0 0) (plain told.Held ∷ plain told.Quiet
    ∷ plain (told.Read 3 digest) ∷ [])
    ≡ (ask.Count ∷ ask.Check func.BprmCheck 1 ∷ ask.Read 0 262144 ∷ [], Some (reply.Bytes 3 digest))
executed = refl

-- a module is read and closed
module_read : steps mode.Off [] (call.Module 0) (plain told.Held ∷ measured told.Quiet
    ∷ plain (told.Grant
    (record { placed = Some (Added 1); verdict = None; admitted = true; labelled = false }))
    ∷ plain (told.Read 3 digest) ∷ plain told.Dropped ∷ [])
    ≡ (
      ask.Count ∷ ask.Check func.ModuleCheck 4 ∷ ask.Take slot.File ∷ ask.Read 0 262144 ∷ ask.Close
          ∷ [],
      Some (reply.Bytes 3 digest),
    )
module_read = refl

-- a name that is there already is refused before the file is looked for, and so is one that isn't
-- there
named_twice : steps mode.Off (reader (name.Descriptor 0) ∷ [])
    (call.Open 0 7 (how.Read false) false) (plain told.Nothing ∷ [])
    ≡ (ask.Plain ∷ [], Some reply.BadFile)
named_twice = refl

not_named : steps mode.Off [] (call.Read 0 0 1) (plain told.Nothing ∷ [])
    ≡ (ask.Plain ∷ [], Some reply.BadFile)
not_named = refl

-- a reader can't write
not_writable : steps mode.Off (reader (name.Descriptor 0) ∷ []) (call.Ftruncate 0 1)
    (plain told.Nothing ∷ []) ≡ (ask.Plain ∷ [], Some reply.BadFile)
not_writable = refl

absent_file : steps mode.Off [] (call.Firmware 0) (plain told.NotFound ∷ [])
    ≡ (ask.Count ∷ [], Some reply.NotFound)
absent_file = refl
