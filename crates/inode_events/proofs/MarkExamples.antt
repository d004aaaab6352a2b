-- Examples of the marks of an inode: the label that a writer's close must write, and the begin and
-- end of new, update and the span. The file has no label and fix mode writes one, which sets update
-- if the granted file is open for writing.
use Rattle.std.proofs.Common.{true, false, [], ◌∷◌, Some, None, refl}
use Rattle.ima_templates.specs.declared.entry.Placed.TheVariants.{Added, Already}
use Rattle.inode_meta.specs.declared.appraisal.Mode.TheVariants.{Enforce, Off}
use Rattle.label_values.specs.declared.verdict.Cause.TheVariants as cause
use Rattle.label_values.specs.declared.verdict.Verdict.TheVariants.{Deny, Pass}
use Rattle.policy_rules.specs.declared.rule.Func.TheVariants.{FileCheck}
use Rattle.inode_events.specs.Checks.{no_action}
use Rattle.inode_events.specs.declared.deed.Deed.TheVariants as deed
use Rattle.inode_events.specs.declared.deed.How.TheVariants as how
use Rattle.inode_events.specs.declared.told.Told.TheVariants as told
use Rattle.inode_events.proofs.Examples.{Tells, abc, appraise, fixing, grant, inode_of, measure, no_key}

-- A writer whose grant wrote a label, and that writes nothing, needn't write a label at its close.
nothing_written : Tells fixing (
    (deed.Count (how.Write false false), Some told.Held) ∷
    (deed.Check 1 FileCheck appraise 1, Some told.Quiet) ∷
    (deed.Take 1, Some told.Begun) ∷
    (deed.Chunk 1, Some told.Last) ∷
    (deed.Finish 1, Some (told.Grant (grant None (Some (Deny cause.MissingHash)) true true))) ∷
    (deed.CloseTake 1, Some told.Dropped) ∷
    [])
nothing_written = (refl, refl)

-- A writer whose grant wrote a label, and that then writes, must write the label at its close.
something_written : Tells fixing (
    (deed.Count (how.Write false false), Some told.Held) ∷
    (deed.Check 1 FileCheck appraise 1, Some told.Quiet) ∷
    (deed.Take 1, Some told.Begun) ∷
    (deed.Chunk 1, Some told.Last) ∷
    (deed.Finish 1, Some (told.Grant (grant None (Some (Deny cause.MissingHash)) true true))) ∷
    (deed.Write 1 0 (88 ∷ []), Some told.Done) ∷
    (deed.CloseTake 1, Some told.Begun) ∷
    (deed.CloseChunk 1, Some told.Last) ∷
    (deed.CloseFinish 1, Some told.LabelledDropped) ∷
    [])
something_written = (refl, refl)

-- The close of the last writer ends update: the next writer isn't appraised, and needn't label what
-- it writes.
update_ends : Tells fixing (
    (deed.Count (how.Write false false), Some told.Held) ∷
    (deed.Check 1 FileCheck appraise 1, Some told.Quiet) ∷
    (deed.Take 1, Some told.Begun) ∷
    (deed.Chunk 1, Some told.Last) ∷
    (deed.Finish 1, Some (told.Grant (grant None (Some (Deny cause.MissingHash)) true true))) ∷
    (deed.CloseTake 1, Some told.Dropped) ∷
    (deed.Count (how.Write false false), Some told.Held) ∷
    (deed.Check 7 FileCheck no_action 1, Some told.Quiet) ∷
    (deed.Write 7 0 (88 ∷ []), Some told.Done) ∷
    (deed.CloseTake 7, Some told.Dropped) ∷
    [])
update_ends = (refl, refl)

-- The span begins again with the first writer: a writer needn't label what an earlier one wrote.
span_restarts : Tells fixing (
    (deed.Count (how.Write false false), Some told.Held) ∷
    (deed.Check 1 FileCheck no_action 1, Some told.Quiet) ∷
    (deed.Write 1 0 (88 ∷ []), Some told.Done) ∷
    (deed.CloseTake 1, Some told.Dropped) ∷
    (deed.Count (how.Write false false), Some told.Held) ∷
    (deed.Check 5 FileCheck appraise 1, Some told.Quiet) ∷
    (deed.Take 5, Some told.Begun) ∷
    (deed.Chunk 5, Some told.Last) ∷
    (deed.Finish 5, Some (told.Grant (grant None (Some (Deny cause.MissingHash)) true true))) ∷
    (deed.CloseTake 5, Some told.Dropped) ∷
    [])
span_restarts = (refl, refl)

-- A reader that creates the file passes, since the file is new. It doesn't set update, so the next
-- writer needn't write a label.
reader_passes : Tells (inode_of Enforce no_key false [] [] true) (
    (deed.Count (how.Read true), Some told.Held) ∷
    (deed.Check 1 FileCheck appraise 1, Some told.Quiet) ∷
    (deed.Take 1, Some told.Begun) ∷
    (deed.Chunk 1, Some told.Last) ∷
    (deed.Finish 1, Some (told.Grant (grant None (Some Pass) true false))) ∷
    (deed.Count (how.Write false false), Some told.Held) ∷
    (deed.Check 6 FileCheck no_action 1, Some told.Quiet) ∷
    (deed.Write 6 0 abc, Some told.Done) ∷
    (deed.CloseTake 6, Some told.Dropped) ∷
    [])
reader_passes = (refl, refl)

-- A file is new only until its last writer closes it for the first time: the next writer, which
-- writes nothing, leaves the digest in force.
new_once : Tells (inode_of Off no_key false [] [] true) (
    (deed.Count (how.Write false true), Some told.Held) ∷
    (deed.Check 1 FileCheck no_action 1, Some told.Quiet) ∷
    (deed.Write 1 0 abc, Some told.Done) ∷
    (deed.CloseTake 1, Some told.Dropped) ∷
    (deed.Count (how.Read false), Some told.Held) ∷
    (deed.Check 5 FileCheck measure 1, Some told.Quiet) ∷
    (deed.Take 5, Some told.Begun) ∷
    (deed.Chunk 5, Some told.Last) ∷
    (deed.Finish 5, Some (told.Grant (grant (Some (Added 1)) None true false))) ∷
    (deed.Close 5, Some told.Dropped) ∷
    (deed.Count (how.Write false false), Some told.Held) ∷
    (deed.Check 11 FileCheck no_action 1, Some told.Quiet) ∷
    (deed.CloseTake 11, Some told.Dropped) ∷
    (deed.Count (how.Read false), Some told.Held) ∷
    (deed.Check 14 FileCheck measure 1, Some told.Quiet) ∷
    (deed.Take 14, Some (told.Grant (grant (Some (Already 1)) None true false))) ∷
    [])
new_once = (refl, refl)
