-- Grants for a file that was written: before its digest was begun, or since.
use Rattle.std.specs.Prelude.{◌≡◌, true, false, List, [], ◌∷◌, ◌++◌, Some, None}
use Rattle.inode_events.specs.Admission.{granted_unmodified}
use Rattle.inode_events.specs.Integrity.{in_force}
use Rattle.inode_events.specs.Legal.{Legal}
use Rattle.inode_events.specs.declared.deed.Deed.TheVariants as deed
use Rattle.inode_events.specs.declared.deed.How.TheVariants as how
use Rattle.inode_events.specs.declared.told.Event.{Event}
use Rattle.inode_events.specs.declared.told.Told.{Told}
use Rattle.inode_events.specs.declared.told.Told.TheVariants as told
use Rattle.inode_events.specs.labels.declared.verdict.Cause.TheVariants.{MissingHash}
use Rattle.inode_events.specs.labels.declared.verdict.Verdict.TheVariants.{Deny}
use Rattle.inode_events.specs.policy.declared.rule.Func.TheVariants.{FileCheck}
use Rattle.std.specs.Prelude.{is_some}
use Rattle.worked_examples.specs.Shared.{appraise, did, enforced, hashing_open, journal, writing_open}

-- the outcome of a take or finish of a file without a label, in mode enforce
abbrev pub refused : Told
refused =
    told.Grant (record {
      placed = None;
      verdict = Some (Deny MissingHash);
      admitted = false;
      labelled = false;
    })

-- task 1 opens the file, writes a byte of it and closes it
abbrev pub written_and_closed : List Event
written_and_closed =
    writing_open 1 0 1 told.Quiet ++ did 1 1 0 (deed.Write 1 0 (88 ∷ [])) told.Done
    ∷ did 1 2 0 (deed.CloseTake 1) told.Dropped ∷ []

-- then task 0 opens it for reading, up to the last piece of its collection
abbrev pub closed_before : List Event
closed_before =
    written_and_closed ++ did 0 0 0 (deed.Count (how.Read false)) told.Held
    ∷ did 0 0 1 (deed.Check 5 FileCheck appraise 1) told.Quiet ∷ did 0 0 2 (deed.Take 5) told.Begun
    ∷ did 0 0 3 (deed.Chunk 5) told.Last ∷ []

-- task 1 opens the file and writes to it once task 0 has begun to hash it
abbrev pub written_between : List Event
written_between =
    writing_open 1 0 1 told.Quiet ++ did 0 0 0 (deed.Count (how.Read false)) told.Held
    ∷ did 0 0 1 (deed.Check 3 FileCheck appraise 1) told.Quiet ∷ did 0 0 2 (deed.Take 3) told.Begun
    ∷ did 1 1 0 (deed.Write 1 0 (88 ∷ [])) told.Done ∷ did 0 0 3 (deed.Chunk 3) told.Last ∷ []

-- task 0 hashes the file after task 1 has closed it, and task 2 opens it too
abbrev pub hashed_after : List Event
hashed_after =
    closed_before ++ did 0 0 4 (deed.Finish 5) refused
    ∷ did 2 0 0 (deed.Count (how.Read false)) told.Held
    ∷ did 2 0 1 (deed.Check 10 FileCheck appraise 1) told.Quiet ∷ []

-- task 1 opens the file and writes to it after task 0 has hashed it, and task 2 opens it too
abbrev pub hashed_before : List Event
hashed_before =
    hashing_open 0 0 1 appraise refused ++ writing_open 1 0 6 told.Quiet
    ++ did 1 1 0 (deed.Write 6 0 (88 ∷ [])) told.Done
    ∷ did 2 0 0 (deed.Count (how.Read false)) told.Held
    ∷ did 2 0 1 (deed.Check 9 FileCheck appraise 1) told.Quiet ∷ []

-- whether the grant is for an unmodified file
pub record UnmodifiedExamples : Type 0 where
  -- all of these journals are legal
  pub closed_before_legal : Legal enforced (journal enforced closed_before)
  pub written_between_legal : Legal enforced (journal enforced written_between)
  pub hashed_after_legal : Legal enforced (journal enforced hashed_after)
  pub hashed_before_legal : Legal enforced (journal enforced hashed_before)
  -- a finish: the file was written and closed before the take, or was written since
  pub finished : granted_unmodified enforced (deed.Finish 5) (journal enforced closed_before)
      ≡ true
  pub overtaken : granted_unmodified enforced (deed.Finish 3) (journal enforced written_between)
      ≡ false
  -- a take with a digest in force: the file was written before the digest was begun, or since
  pub in_force_after : is_some (in_force enforced (journal enforced hashed_after)) ≡ true
  pub in_force_before : is_some (in_force enforced (journal enforced hashed_before)) ≡ true
  pub taken : granted_unmodified enforced (deed.Take 10) (journal enforced hashed_after) ≡ true
  pub outdated : granted_unmodified enforced (deed.Take 9) (journal enforced hashed_before)
      ≡ false
