-- Examples of measurements, of violations, and of events that void a digest.
use Rattle.std.proofs.Common.{true, false, [], ◌∷◌, Some, None, refl}
use Rattle.std.specs.Prelude.{replicate}
use Rattle.hash_algos.specs.Digest.{digest_of}
use Rattle.hash_algos.specs.declared.algo.Algo.TheVariants.{Sha256}
use Rattle.ima_templates.specs.declared.entry.Placed.TheVariants.{Added, Already}
use Rattle.inode_meta.specs.declared.appraisal.Mode.TheVariants.{Off}
use Rattle.policy_rules.specs.declared.rule.Func.TheVariants.{BprmCheck, FileCheck}
use Rattle.inode_events.specs.Checks.{no_action}
use Rattle.inode_events.specs.declared.deed.Deed.TheVariants as deed
use Rattle.inode_events.specs.declared.deed.How.TheVariants as how
use Rattle.inode_events.specs.declared.told.Told.TheVariants as told
use Rattle.inode_events.proofs.Examples.{Tells, abc, grant, inode_of, measure, no_key, plain}

-- A file opened for reading is measured: it is hashed once, and the read gets the hashed bytes.
measured_open : Tells plain (
    (deed.Count (how.Read false), Some told.Held) ∷
    (deed.Check 1 FileCheck measure 1, Some told.Quiet) ∷
    (deed.Take 1, Some told.Begun) ∷
    (deed.Chunk 1, Some told.Last) ∷
    (deed.Finish 1, Some (told.Grant (grant (Some (Added 1)) None true false))) ∷
    (deed.Read 1 0 3, Some (told.Read 3 (digest_of Sha256 abc))) ∷
    (deed.Close 1, Some told.Dropped) ∷
    [])
measured_open = (refl, refl)

-- A writer opens the file while there is a measured reader: ToMToU, even if no rule matches the
-- writer. The mark is cleared then.
time_of_use : Tells plain (
    (deed.Count (how.Read false), Some told.Held) ∷
    (deed.Check 1 FileCheck measure 1, Some told.Quiet) ∷
    (deed.Take 1, Some told.Begun) ∷
    (deed.Chunk 1, Some told.Last) ∷
    (deed.Finish 1, Some (told.Grant (grant (Some (Added 1)) None true false))) ∷
    (deed.Count (how.Write false false), Some told.Held) ∷
    (deed.Check 6 FileCheck no_action 1, Some (told.ToMToU 2)) ∷
    (deed.Count (how.Write true false), Some told.Held) ∷
    (deed.Check 8 FileCheck no_action 1, Some told.Quiet) ∷
    [])
time_of_use = (refl, refl)

-- Readers open the file while there is a writer: open-writers at each check that measures. The
-- second reader finds the digest in force.
open_writers : Tells plain (
    (deed.Count (how.Write false false), Some told.Held) ∷
    (deed.Check 1 FileCheck no_action 1, Some told.Quiet) ∷
    (deed.Count (how.Read false), Some told.Held) ∷
    (deed.Check 3 FileCheck measure 1, Some (told.OpenWriters 1)) ∷
    (deed.Take 3, Some told.Begun) ∷
    (deed.Chunk 3, Some told.Last) ∷
    (deed.Finish 3, Some (told.Grant (grant (Some (Added 2)) None true false))) ∷
    (deed.Count (how.Read false), Some told.Held) ∷
    (deed.Check 8 FileCheck measure 1, Some (told.OpenWriters 3)) ∷
    (deed.Take 8, Some (told.Grant (grant (Some (Already 2)) None true false))) ∷
    [])
open_writers = (refl, refl)

-- A write comes between two pieces of a collection. The close of the last writer voids the
-- resulting digest, and the next open hashes the file again.
written_while_hashed : Tells (inode_of Off no_key true (replicate 5000 97) [] true) (
    (deed.Count (how.Read false), Some told.Held) ∷
    (deed.Check 1 FileCheck measure 1, Some told.Quiet) ∷
    (deed.Take 1, Some told.Begun) ∷
    (deed.Chunk 1, Some told.More) ∷
    (deed.Count (how.Write false false), Some told.Held) ∷
    (deed.Check 5 FileCheck no_action 1, Some (told.ToMToU 1)) ∷
    (deed.Write 5 0 (88 ∷ []), Some told.Done) ∷
    (deed.Chunk 1, Some told.Last) ∷
    (deed.Finish 1, Some (told.Grant (grant (Some (Added 2)) None true false))) ∷
    (deed.CloseTake 5, Some told.Dropped) ∷
    (deed.Close 1, Some told.Dropped) ∷
    (deed.Count (how.Read false), Some told.Held) ∷
    (deed.Check 12 FileCheck measure 1, Some told.Quiet) ∷
    (deed.Take 12, Some told.Begun) ∷
    (deed.Chunk 12, Some told.More) ∷
    (deed.Chunk 12, Some told.Last) ∷
    (deed.Finish 12, Some (told.Grant (grant (Some (Added 3)) None true false))) ∷
    [])
written_while_hashed = (refl, refl)

-- Without change versions the close of the last writer counts as a change, even if nothing was
-- written.
uncounted_changes : Tells (inode_of Off no_key true abc [] false) (
    (deed.Count (how.Read false), Some told.Held) ∷
    (deed.Check 1 FileCheck measure 1, Some told.Quiet) ∷
    (deed.Take 1, Some told.Begun) ∷
    (deed.Chunk 1, Some told.Last) ∷
    (deed.Finish 1, Some (told.Grant (grant (Some (Added 1)) None true false))) ∷
    (deed.Close 1, Some told.Dropped) ∷
    (deed.Count (how.Write false false), Some told.Held) ∷
    (deed.Check 7 FileCheck no_action 1, Some told.Quiet) ∷
    (deed.CloseTake 7, Some told.Dropped) ∷
    (deed.Count (how.Read false), Some told.Held) ∷
    (deed.Check 10 FileCheck measure 1, Some told.Quiet) ∷
    (deed.Take 10, Some told.Begun) ∷
    [])
uncounted_changes = (refl, refl)

-- With change versions a writer that wrote nothing leaves the digest in force, and the list already
-- has the entry.
counted_changes : Tells plain (
    (deed.Count (how.Read false), Some told.Held) ∷
    (deed.Check 1 FileCheck measure 1, Some told.Quiet) ∷
    (deed.Take 1, Some told.Begun) ∷
    (deed.Chunk 1, Some told.Last) ∷
    (deed.Finish 1, Some (told.Grant (grant (Some (Added 1)) None true false))) ∷
    (deed.Close 1, Some told.Dropped) ∷
    (deed.Count (how.Write false false), Some told.Held) ∷
    (deed.Check 7 FileCheck no_action 1, Some told.Quiet) ∷
    (deed.CloseTake 7, Some told.Dropped) ∷
    (deed.Count (how.Read false), Some told.Held) ∷
    (deed.Check 10 FileCheck measure 1, Some told.Quiet) ∷
    (deed.Take 10, Some (told.Grant (grant (Some (Already 1)) None true false))) ∷
    [])
counted_changes = (refl, refl)

-- A file that is open for writing can't be executed.
writer_before_exec : Tells plain (
    (deed.Count (how.Write false false), Some told.Held) ∷
    (deed.Count how.Exec, Some told.TextBusy) ∷
    [])
writer_before_exec = (refl, refl)

-- An executed file can't be opened for writing until the execution is over. An absent file can't be
-- executed.
exec_before_writer : Tells plain (
    (deed.Count how.Exec, Some told.Held) ∷
    (deed.Check 1 BprmCheck no_action 1, Some told.Quiet) ∷
    (deed.Count (how.Write false false), Some told.TextBusy) ∷
    (deed.Read 1 0 262144, Some (told.Read 3 (digest_of Sha256 abc))) ∷
    (deed.Close 1, Some told.Dropped) ∷
    (deed.Count (how.Write false false), Some told.Held) ∷
    [])
exec_before_writer = (refl, refl)

-- An open with `create` creates an absent file, an exec doesn't.
absent_exec : Tells (inode_of Off no_key false [] [] true) (
    (deed.Count how.Exec, Some told.NotFound) ∷
    (deed.Count (how.Read false), Some told.NotFound) ∷
    (deed.Count (how.Write false true), Some told.Held) ∷
    [])
absent_exec = (refl, refl)

-- A write or truncation that would end beyond the maximum size is refused.
size_limit_kept : Tells plain (
    (deed.Count (how.Write false false), Some told.Held) ∷
    (deed.Check 1 FileCheck no_action 1, Some told.Quiet) ∷
    (deed.Write 1 262144 (88 ∷ []), Some told.TooBig) ∷
    (deed.Trunc 1 262145, Some told.TooBig) ∷
    (deed.Trunc 1 2, Some told.Done) ∷
    [])
size_limit_kept = (refl, refl)

-- The mark outlives the reader that set it: the presence of another reader is enough.
mark_outlives : Tells plain (
    (deed.Count (how.Read false), Some told.Held) ∷
    (deed.Check 1 FileCheck measure 1, Some told.Quiet) ∷
    (deed.Take 1, Some told.Begun) ∷
    (deed.Chunk 1, Some told.Last) ∷
    (deed.Finish 1, Some (told.Grant (grant (Some (Added 1)) None true false))) ∷
    (deed.Count (how.Read false), Some told.Held) ∷
    (deed.Check 6 FileCheck no_action 1, Some told.Quiet) ∷
    (deed.Close 1, Some told.Dropped) ∷
    (deed.Count (how.Write false false), Some told.Held) ∷
    (deed.Check 9 FileCheck no_action 1, Some (told.ToMToU 2)) ∷
    [])
mark_outlives = (refl, refl)

-- A file that is open for reading and writing is measured, but doesn't set the mark.
no_mark_by_writers : Tells plain (
    (deed.Count (how.Write true false), Some told.Held) ∷
    (deed.Check 1 FileCheck measure 1, Some told.Quiet) ∷
    (deed.Take 1, Some told.Begun) ∷
    (deed.Chunk 1, Some told.Last) ∷
    (deed.Finish 1, Some (told.Grant (grant (Some (Added 1)) None true false))) ∷
    (deed.Count (how.Read false), Some told.Held) ∷
    (deed.Check 6 FileCheck no_action 1, Some told.Quiet) ∷
    (deed.Count (how.Write false false), Some told.Held) ∷
    (deed.Check 8 FileCheck no_action 1, Some told.Quiet) ∷
    [])
no_mark_by_writers = (refl, refl)
