-- Reads that a measurement list covers, and reads that it doesn't.
use Rattle.std.specs.Prelude.{◌≢◌, false, List, [], ◌∷◌, ◌++◌, codes}
use Rattle.inode_events.specs.Coverage.{IsCovered}
use Rattle.inode_events.specs.Listing.{violated}
use Rattle.inode_events.specs.declared.deed.Deed.TheVariants as deed
use Rattle.inode_events.specs.declared.deed.How.TheVariants as how
use Rattle.inode_events.specs.declared.told.Event.{Event}
use Rattle.inode_events.specs.declared.told.Told.TheVariants as told
use Rattle.inode_events.specs.hashes.Digest.{digest_of}
use Rattle.inode_events.specs.hashes.declared.digest.Digest.{Digest}
use Rattle.inode_events.specs.policy.declared.rule.Func.TheVariants.{FileCheck}
use Rattle.inode_events.specs.templates.declared.entry.Entry.{Entry}
use Rattle.inode_events.specs.templates.declared.entry.Placed.TheVariants.{Added}
use Rattle.worked_examples.specs.Shared.{abc, boot, did, entry, file_a, file_b, granted, hashing_open, journal, measure, writing_open}

-- task 0 opens the file and measures it, at index 1 of the list
abbrev pub opened : List Event
opened = journal file_a (hashing_open 0 0 1 measure (granted (Added 1)))

-- then task 1 opens it for writing and writes a byte
abbrev pub overwritten : List Event
overwritten = journal file_a (hashing_open 0 0 1 measure (granted (Added 1))
    ++ writing_open 1 0 6 (told.ToMToU 2) ++ did 1 1 0 (deed.Write 6 0 (88 ∷ [])) told.Done ∷ [])

-- task 0 opens the file while task 1 has it open for writing, with a violation at index 1
abbrev pub opened_beside : List Event
opened_beside = journal file_a (writing_open 1 0 1 told.Quiet
    ++ did 0 0 0 (deed.Count (how.Read false)) told.Held
    ∷ did 0 0 1 (deed.Check 3 FileCheck measure 1) (told.OpenWriters 1)
    ∷ did 0 0 2 (deed.Take 3) told.Begun ∷ did 0 0 3 (deed.Chunk 3) told.Last
    ∷ did 0 0 4 (deed.Finish 3) (granted (Added 2)) ∷ [])

-- tasks 0 and 1 open the file, and only task 1 has measured it
abbrev pub half_opened : List Event
half_opened = journal file_a (did 0 0 0 (deed.Count (how.Read false)) told.Held
    ∷ did 0 0 1 (deed.Check 1 FileCheck measure 1) told.Quiet ∷ []
    ++ hashing_open 1 0 3 measure (granted (Added 1)))

-- the list has the entry of the file with this digest
abbrev pub with_digest : Digest → List Entry
with_digest digest = boot ∷ record entry { digest = digest } ∷ []

-- the entry of a file at /b with the same content
abbrev pub entry_b : Entry
entry_b = record entry { name = codes "/b" }

-- the read of a file, after one of these journals, is covered or not
pub record CoveredExamples : Type 0 where
  -- by the entry of the content
  pub by_entry : IsCovered file_a (boot ∷ entry ∷ []) 1 opened
  -- by a violation that was reported after the check
  pub by_violation : IsCovered file_a (boot ∷ entry ∷ violated file_a ∷ []) 1 overwritten
  -- by a violation at the check, whatever the digest
  pub by_violation_at_check : (digest : Digest)
      → IsCovered file_a (boot ∷ violated file_a ∷ record entry { digest = digest } ∷ []) 3
      opened_beside
  -- not by an entry with another digest
  pub other_digest : (digest : Digest) → digest ≢ digest_of digest.algo abc
      → IsCovered file_a (with_digest digest) 1 opened → ⊥
  -- not by an entry under another path
  pub other_path : IsCovered file_a (boot ∷ entry_b ∷ []) 1 opened → ⊥
  -- not by a violation under another path
  pub other_violation :
      IsCovered file_a (boot ∷ violated file_b ∷ entry_b ∷ []) 3 opened_beside → ⊥
  -- not by an entry that is no violation, at the index that the check reported
  pub no_violation : IsCovered file_a (boot ∷ entry ∷ entry_b ∷ []) 3 opened_beside → ⊥
  -- not by the grant of another file
  pub other_file : IsCovered file_a (boot ∷ entry ∷ []) 1 half_opened → ⊥
