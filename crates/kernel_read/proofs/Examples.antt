-- Tables of the kernel's reads.
use Rattle.std.proofs.Common.{◌≡◌, ℕ, true, false, List, [], ◌∷◌, ◌++◌, map, codes, Option, Some, None, refl}
use Rattle.std.specs.List.{join_with_byte}
use Rattle.report_text.specs.Numerals.{numeral}
use Rattle.report_text.specs.Report.{reply_words}
use Rattle.script_text.specs.labels.declared.verdict.Cause.TheVariants as cause
use Rattle.script_text.specs.labels.declared.verdict.Verdict.TheVariants.{Deny}
use Rattle.script_text.specs.steps.declared.call.Call.{Call}
use Rattle.script_text.specs.steps.declared.call.Call.TheVariants as call
use Rattle.script_text.specs.steps.declared.reply.Reply.{Reply}
use Rattle.script_text.specs.steps.declared.reply.Reply.TheVariants as reply
use Rattle.script_text.specs.steps.hashes.declared.algo.Algo.TheVariants.{Sha256}
use Rattle.script_text.specs.steps.hashes.declared.digest.Digest.{Digest}
use Rattle.script_text.specs.steps.templates.declared.entry.Placed.{Placed}
use Rattle.script_text.specs.steps.templates.declared.entry.Placed.TheVariants.{Added, Already}
use Rattle.script_text.specs.events.EndedInode.{EndedInodeValue}
use Rattle.script_text.specs.events.declared.deed.Deed.{Deed}
use Rattle.script_text.specs.events.declared.deed.Deed.TheVariants as deed
use Rattle.script_text.specs.events.declared.deed.How.TheVariants as how
use Rattle.script_text.specs.events.declared.told.Event.{Event}
use Rattle.script_text.specs.events.declared.told.Told.{Told}
use Rattle.script_text.specs.events.declared.told.Told.TheVariants as told
use Rattle.run_laws.specs.model.EndedValue.{EndedTaskValue}
use Rattle.kernel_read.specs.Table.{table_lines, task_lines}

-- ---- an inode, its events and its readers

-- the inode `/a` with this journal
abbrev inode : List Event → EndedInodeValue
inode journal = record {
  path = codes "/a";
  journal = journal;
  force = None;
  attrs = [];
  writers = 0;
  readers = 0;
  execs = 0;
}

-- an event of a step of a task's call
abbrev did : ℕ → ℕ → ℕ → Deed → Told → Event
did task call step d t =
    record { who = record { task = task; call = call; step = step }; deed = d; told = t }

-- a grant that admits its file, with the place that it names
abbrev granted : Option Placed → Told
granted placed =
    told.Grant (record { placed = placed; verdict = None; admitted = true; labelled = false })

-- a grant that refuses its file
abbrev barred : Option Placed → Told
barred placed = told.Grant (record {
  placed = placed;
  verdict = Some (Deny cause.MissingHash);
  admitted = false;
  labelled = false;
})

-- some digest
abbrev digest : Digest
digest = record { algo = Sha256; bytes = 171 ∷ 205 ∷ [] }

-- a reply as a report prints it: `ok`, the number of bytes and their digest
abbrev printed : Reply → List ℕ
printed r = join_with_byte 32 (reply_words r)

-- a task that is done, with its replies
abbrev replies : List Reply → EndedTaskValue
replies rs = record { done = true; replies = rs }

-- the lines of the table
abbrev table : List Event → List (List Call) → List EndedTaskValue → List (List ℕ)
table journal tasks ended =
    map (join_with_byte 32) (table_lines (task_lines (inode journal ∷ []) 0 tasks ended))

-- ---- the rows

-- a module that is measured has the place of its grant
measured : table
    (did 0 0 0 (deed.Count how.Exec) told.Held ∷ did 0 0 2 (deed.Take 1) told.Begun
    ∷ did 0 0 4 (deed.Finish 1) (granted (Some (Added 1)))
    ∷ did 0 0 6 (deed.Close 1) told.Dropped ∷ [])
    ((call.Module 0 ∷ []) ∷ []) (replies (reply.Bytes 3 digest ∷ []) ∷ [])
    ≡ codes "loads 1"
    ∷ (codes "load 0.0 MODULE_CHECK /a added 1 " ++ printed (reply.Bytes 3 digest))
    ∷ codes "end" ∷ []
unfolding numeral
measured = refl

-- a firmware file that is open for writing isn't read; the other task's open has no line
busy : table
    (did 0 0 0 (deed.Count (how.Write false false)) told.Held
    ∷ did 1 0 0 (deed.Count how.Exec) told.TextBusy ∷ [])
    ((call.Open 0 0 (how.Write false false) false ∷ []) ∷ (call.Firmware 0 ∷ []) ∷ [])
    (replies (reply.Done ∷ []) ∷ replies (reply.TextBusy ∷ []) ∷ [])
    ≡ codes "loads 1" ∷ codes "load 1.0 FIRMWARE_CHECK /a - ETXTBSY" ∷ codes "end" ∷ []
unfolding numeral
busy = refl

-- a module that is measured and refused has its place too; the second finds the first's entry
denied : table
    (did 0 0 0 (deed.Count how.Exec) told.Held
    ∷ did 0 0 4 (deed.Finish 1) (barred (Some (Added 1)))
    ∷ did 0 0 5 (deed.Close 1) told.Dropped
    ∷ did 0 1 0 (deed.Count how.Exec) told.Held
    ∷ did 0 1 2 (deed.Take 4) (barred (Some (Already 1)))
    ∷ did 0 1 3 (deed.Close 4) told.Dropped ∷ [])
    ((call.Module 0 ∷ call.Module 0 ∷ []) ∷ [])
    (replies (reply.Denied cause.MissingHash ∷ reply.Denied cause.MissingHash ∷ []) ∷ [])
    ≡ codes "loads 2" ∷ codes "load 0.0 MODULE_CHECK /a added 1 EACCES missing-hash"
    ∷ codes "load 0.1 MODULE_CHECK /a already 1 EACCES missing-hash" ∷ codes "end" ∷ []
unfolding numeral
denied = refl

-- a call that isn't answered has no line, and nor has the grant of another call
unanswered : table
    (did 0 0 0 (deed.Count (how.Read false)) told.Held
    ∷ did 0 0 4 (deed.Finish 1) (granted (Some (Added 1)))
    ∷ did 0 1 0 (deed.Count how.Exec) told.Held
    ∷ did 0 1 2 (deed.Take 4) (granted None) ∷ [])
    ((call.Open 0 0 (how.Read false) false ∷ call.Module 0 ∷ call.Module 0 ∷ []) ∷ [])
    (replies (reply.Done ∷ reply.Bytes 3 digest ∷ []) ∷ [])
    ≡ codes "loads 1" ∷ (codes "load 0.1 MODULE_CHECK /a - " ++ printed (reply.Bytes 3 digest))
    ∷ codes "end" ∷ []
unfolding numeral
unanswered = refl

-- a script without such calls has an empty table
none : table [] ((call.Post 0 ∷ []) ∷ []) (replies (reply.Done ∷ []) ∷ [])
    ≡ codes "loads 0" ∷ codes "end" ∷ []
unfolding numeral
none = refl
