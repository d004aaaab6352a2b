-- What the laws of journals speak of: digests and verdicts that are fresh or aren't, grants that
-- are admitted or aren't, and a journal with as many collections as the bound allows.
use Rattle.std.specs.Prelude.{◌≡◌, ◌≢◌, ◌+◌, ◌≤◌, Bool, true, false, List, [], ◌∷◌, ◌++◌, codes, Some, None}
use Rattle.inode_events.specs.Counts.{takes_begun, times_voided, times_voided_before_last}
use Rattle.inode_events.specs.Files.{writers}
use Rattle.inode_events.specs.Inode.{Inode}
use Rattle.inode_events.specs.Legal.{Legal}
use Rattle.inode_events.specs.Verdicts.{verdict_in_force}
use Rattle.inode_events.specs.declared.deed.Deed.TheVariants as deed
use Rattle.inode_events.specs.declared.deed.How.TheVariants as how
use Rattle.inode_events.specs.declared.told.Event.{Event}
use Rattle.inode_events.specs.declared.told.Grant.{Grant}
use Rattle.inode_events.specs.declared.told.Told.TheVariants as told
use Rattle.inode_events.specs.hashes.Digest.{digest_of}
use Rattle.inode_events.specs.hashes.declared.algo.Algo.TheVariants.{Sha1, Sha256}
use Rattle.inode_events.specs.labels.declared.verdict.Cause.TheVariants.{InvalidHash, MissingHash}
use Rattle.inode_events.specs.labels.declared.verdict.Verdict.{Verdict}
use Rattle.inode_events.specs.labels.declared.verdict.Verdict.TheVariants.{Deny, Pass}
use Rattle.inode_events.specs.meta.declared.appraisal.Mode.TheVariants.{Enforce}
use Rattle.inode_events.specs.meta.declared.appraisal.Need.TheVariants as need
use Rattle.inode_events.specs.meta.declared.appraisal.Slot.TheVariants as slot
use Rattle.inode_events.specs.policy.declared.access.Action.{Action}
use Rattle.inode_events.specs.policy.declared.rule.Func.TheVariants.{FileCheck}
use Rattle.inode_events.specs.templates.declared.entry.Placed.TheVariants.{Added, Already}
use Rattle.run_laws.specs.laws_of_journals.Laws.{AreVerdictsFresh, IsAdmitted, IsDigestFresh}
use Rattle.worked_examples.specs.Shared.{abc, appraise, did, enforced, file_a, granted, hashing_open, image, journal, measure, settings, xbc}
use Rattle.worked_examples.specs.Unmodified.{closed_before, hashed_before, refused, written_between}

-- ---- freshness

-- the file was written and closed, and then hashed and refused
abbrev pub hashing : List Event
hashing = closed_before ++ did 0 0 4 (deed.Finish 5) refused ∷ []

-- its journal
abbrev pub hashed : List Event
hashed = journal enforced hashing

-- the file was hashed, and then a writer changed it
abbrev pub changed : List Event
changed = journal enforced hashed_before

-- a file that an open creates, in mode enforce
abbrev pub created : Inode
created = record { path = codes "/a"; settings = settings Enforce; birth = image false [] }

-- the action of a rule `appraise appraise_type=imasig`
abbrev pub appraise_signed : Action
appraise_signed = record appraise { need = need.Signature }

-- a grant that gives this verdict
abbrev pub judged : Verdict → Bool → Grant
judged verdict admitted =
    record { placed = None; verdict = Some verdict; admitted = admitted; labelled = false }

-- a new, empty file passes, and then its writer gives it a content
abbrev pub filling : List Event
filling = did 0 0 0 (deed.Count (how.Write false true)) told.Held
    ∷ did 0 0 1 (deed.Check 1 FileCheck appraise_signed 1) told.Quiet
    ∷ did 0 0 2 (deed.Take 1) told.Begun ∷ did 0 0 3 (deed.Chunk 1) told.Last
    ∷ did 0 0 4 (deed.Finish 1) (told.Grant (judged Pass true))
    ∷ did 0 1 0 (deed.Write 1 0 abc) told.Done ∷ []

-- its journal
abbrev pub filled : List Event
filled = journal created filling

-- ---- collections

-- the file is hashed, an attribute is set, it is hashed again, and an attribute is set
abbrev pub hashing_twice : List Event
hashing_twice = hashing_open 0 0 1 measure (granted (Added 1))
    ++ did 0 1 0 (deed.SetAttr (codes "user.a") (Some []) false) told.Done
    ∷ hashing_open 0 2 7 measure (granted (Already 1))
    ++ did 0 3 0 (deed.SetAttr (codes "user.a") (Some []) false) told.Done ∷ []

-- its journal
abbrev pub hashed_twice : List Event
hashed_twice = journal file_a hashing_twice

-- the file is hashed twice, and nothing voids its digest: this journal isn't legal
abbrev pub hashed_in_vain : List Event
hashed_in_vain = journal file_a (hashing_open 0 0 1 measure (granted (Added 1))
    ++ hashing_open 0 1 6 measure (granted (Already 1)))

-- what is fresh, which grants are admitted, and how often files are hashed
pub record LawExamples : Type 0 where
  -- no writer holds the file, and its digest and its verdict in force are fresh
  pub hashed_legal : Legal enforced hashed
  pub hashed_free : writers hashed ≡ 0
  pub digest_fresh : IsDigestFresh enforced hashed
  pub verdict_given : verdict_in_force enforced (record {
    slot = slot.File;
    need = need.Any;
    algos = None;
  }) hashed ≡ Some (Deny MissingHash)
  pub verdicts_fresh : AreVerdictsFresh enforced hashed
  -- a writer has changed the file: the digest in force isn't fresh if the two contents differ by
  -- the algorithm that was chosen, or if they differ by SHA-1
  pub changed_legal : Legal enforced changed
  pub digest_stale : digest_of Sha256 abc ≢ digest_of Sha256 xbc
      → IsDigestFresh enforced changed → ⊥
  pub sha1_stale : digest_of Sha1 abc ≢ digest_of Sha1 xbc → IsDigestFresh enforced changed → ⊥
  -- a writer has filled a new file, which passed while it was empty
  pub filled_legal : Legal created filled
  pub verdicts_stale : AreVerdictsFresh created filled → ⊥
  -- an enforced, appraised grant after a write and a close
  pub admitted : IsAdmitted enforced (journal enforced closed_before) (deed.Finish 5)
      (judged (Deny MissingHash) false) 5
  -- another verdict than the fresh one, although it denies too
  pub other_verdict : IsAdmitted enforced (journal enforced closed_before) (deed.Finish 5)
      (judged (Deny InvalidHash) false) 5 → ⊥
  -- a file that was written since the take is admitted although its verdict denies
  pub denied_yet_admitted : IsAdmitted enforced (journal enforced written_between) (deed.Finish 3)
      (judged (Deny MissingHash) true) 3 → ⊥
  -- that file may be denied by another verdict than the fresh one
  pub written_admitted : IsAdmitted enforced (journal enforced written_between) (deed.Finish 3)
      (judged (Deny InvalidHash) false) 3
  -- two collections, one more than the events that voided the digest before the second one
  pub twice_legal : Legal file_a hashed_twice
  pub twice_begun : takes_begun hashed_twice ≡ 2
  pub once_voided : times_voided_before_last file_a hashed_twice ≡ 1
  pub voided_since : times_voided file_a hashed_twice ≡ 2
  -- two collections, and nothing voids the digest
  pub too_many : takes_begun hashed_in_vain ≤ times_voided_before_last file_a hashed_in_vain + 1
      → ⊥
