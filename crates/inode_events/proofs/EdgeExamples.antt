-- Corner cases of the definitions, which the larger journals don't reach.
use Rattle.std.proofs.Common.{◌≡◌, true, false, [], ◌∷◌, codes, Option, Some, None, refl}
use Rattle.std.specs.Prelude.{replicate}
use Rattle.hash_algos.specs.Digest.{digest_of}
use Rattle.hash_algos.specs.declared.algo.Algo.TheVariants.{Sha256}
use Rattle.hash_algos.specs.declared.algo_set.AlgoSet.{AlgoSet}
use Rattle.ima_templates.specs.declared.entry.Placed.TheVariants.{Added}
use Rattle.inode_meta.specs.declared.appraisal.Mode.TheVariants.{Enforce, Fix, Log, Off}
use Rattle.inode_meta.specs.declared.appraisal.Need.TheVariants.{Any}
use Rattle.inode_meta.specs.declared.appraisal.Slot.{Slot}
use Rattle.inode_meta.specs.declared.appraisal.Slot.TheVariants as slot
use Rattle.label_values.specs.declared.verdict.Cause.TheVariants as cause
use Rattle.label_values.specs.declared.verdict.Verdict.{Verdict}
use Rattle.label_values.specs.declared.verdict.Verdict.TheVariants.{Deny, Pass}
use Rattle.policy_rules.specs.declared.rule.Func.{Func}
use Rattle.policy_rules.specs.declared.rule.Func.TheVariants.{BprmCheck, FileCheck, MmapCheck}
use Rattle.inode_events.specs.Checks.{no_action}
use Rattle.inode_events.specs.Legal.{May}
use Rattle.inode_events.specs.Listing.{signature_in}
use Rattle.inode_events.specs.State.{content, metadata}
use Rattle.inode_events.specs.Verdicts.{same_set, verdict_in_force}
use Rattle.inode_events.specs.declared.deed.Change.TheVariants as change
use Rattle.inode_events.specs.declared.deed.Deed.TheVariants as deed
use Rattle.inode_events.specs.declared.deed.How.TheVariants as how
use Rattle.inode_events.specs.declared.told.Told.TheVariants as told
use Rattle.inode_events.proofs.Examples.{Rows, Tells, abc, after, appraise, enforcing, grant, inode_of, measure, no_key, plain}

-- ---- counts and marks

-- A file that is open for reading and writing doesn't count as a reader: after the reader that set
-- the mark has closed the file, a writer's check is quiet.
both_is_no_reader : Tells plain (
    (deed.Count (how.Read false), Some told.Held) ∷
    (deed.Check 1 FileCheck measure 1, Some told.Quiet) ∷
    (deed.Take 1, Some told.Begun) ∷
    (deed.Chunk 1, Some told.Last) ∷
    (deed.Finish 1, Some (told.Grant (grant (Some (Added 1)) None true false))) ∷
    (deed.Close 1, Some told.Dropped) ∷
    (deed.Count (how.Write true false), Some told.Held) ∷
    (deed.Check 7 FileCheck no_action 1, Some told.Quiet) ∷
    [])
both_is_no_reader = (refl, refl)

-- A new file is new for everyone who opens it, until its last writer closes it.
new_for_all : Tells (inode_of Enforce no_key false [] [] true) (
    (deed.Count (how.Write false true), Some told.Held) ∷
    (deed.Check 1 FileCheck no_action 1, Some told.Quiet) ∷
    (deed.Count (how.Read false), Some told.Held) ∷
    (deed.Check 3 FileCheck appraise 1, Some told.Quiet) ∷
    (deed.Take 3, Some told.Begun) ∷
    (deed.Chunk 3, Some told.Last) ∷
    (deed.Finish 3, Some (told.Grant (grant None (Some Pass) true false))) ∷
    [])
new_for_all = (refl, refl)

-- The last writer of a new file must label it, even if it wrote nothing.
new_is_due : Tells (inode_of Enforce no_key false [] [] true) (
    (deed.Count (how.Write false true), Some told.Held) ∷
    (deed.Check 1 FileCheck appraise 1, Some told.Quiet) ∷
    (deed.Take 1, Some told.Begun) ∷
    (deed.Chunk 1, Some told.Last) ∷
    (deed.Finish 1, Some (told.Grant (grant None (Some Pass) true false))) ∷
    (deed.CloseTake 1, Some told.Begun) ∷
    [])
new_is_due = (refl, refl)

-- The close of a new file's last writer voids the digest in force, even if nothing was written.
new_is_voided : Tells (inode_of Off no_key false [] [] true) (
    (deed.Count (how.Write false true), Some told.Held) ∷
    (deed.Check 1 FileCheck no_action 1, Some told.Quiet) ∷
    (deed.Count (how.Read false), Some told.Held) ∷
    (deed.Check 3 FileCheck measure 1, Some (told.OpenWriters 1)) ∷
    (deed.Take 3, Some told.Begun) ∷
    (deed.Chunk 3, Some told.Last) ∷
    (deed.Finish 3, Some (told.Grant (grant (Some (Added 2)) None true false))) ∷
    (deed.CloseTake 1, Some told.Dropped) ∷
    (deed.Check 3 FileCheck measure 1, Some told.Quiet) ∷
    (deed.Take 3, Some told.Begun) ∷
    [])
new_is_voided = (refl, refl)

-- Without change versions a writer must label the file, even if it wrote nothing.
uncounted_is_due : Tells (inode_of Fix no_key true abc [] false) (
    (deed.Count (how.Write false false), Some told.Held) ∷
    (deed.Check 1 FileCheck appraise 1, Some told.Quiet) ∷
    (deed.Take 1, Some told.Begun) ∷
    (deed.Chunk 1, Some told.Last) ∷
    (deed.Finish 1, Some (told.Grant (grant None (Some (Deny cause.MissingHash)) true true))) ∷
    (deed.CloseTake 1, Some told.Begun) ∷
    [])
uncounted_is_due = (refl, refl)

-- ---- modes and verdicts

-- If appraisal is off, an action that only appraises requires no take. A read gets whatever the
-- content is.
off_asks_nothing : Tells plain (
    (deed.Count (how.Read false), Some told.Held) ∷
    (deed.Check 1 FileCheck appraise 1, Some told.Quiet) ∷
    (deed.Read 1 1 1, Some (told.Read 1 (digest_of Sha256 (98 ∷ [])))) ∷
    (deed.Read 1 2 9, Some (told.Read 1 (digest_of Sha256 (99 ∷ [])))) ∷
    (deed.Read 1 3 9, Some (told.Read 0 (digest_of Sha256 []))) ∷
    [])
off_asks_nothing = (refl, refl)

-- Log mode admits what the verdict denies, and repairs nothing.
log_admits : Tells (inode_of Log no_key true abc [] true) (
    (deed.Count (how.Read false), Some told.Held) ∷
    (deed.Check 1 FileCheck appraise 1, Some told.Quiet) ∷
    (deed.Take 1, Some told.Begun) ∷
    (deed.Chunk 1, Some told.Last) ∷
    (deed.Finish 1, Some (told.Grant (grant None (Some (Deny cause.MissingHash)) true false))) ∷
    [])
log_admits = (refl, refl)

-- The verdicts of executions and mappings are cached in slots of their own.
abbrev denied : Func → Rows
denied func =
    (deed.Count how.Exec, Some told.Held) ∷
    (deed.Check 1 func appraise 1, Some told.Quiet) ∷
    (deed.Take 1, Some told.Begun) ∷
    (deed.Chunk 1, Some told.Last) ∷
    (deed.Finish 1, Some (told.Grant (grant None (Some (Deny cause.MissingHash)) false false))) ∷
    []

-- the verdict in force in a slot, after a check of a function
abbrev kept : Func → Slot → Option Verdict
kept func slot = verdict_in_force enforcing (record { slot = slot; need = Any; algos = None })
    (after enforcing (denied func))

-- the verdict is cached in the slot of its function, and in no other
slots : (kept BprmCheck slot.Bprm ≡ Some (Deny cause.MissingHash))
    × (kept BprmCheck slot.File ≡ None)
    × (kept MmapCheck slot.Mmap ≡ Some (Deny cause.MissingHash)) × (kept MmapCheck slot.File ≡ None)
slots = (refl, refl, refl, refl)

-- Two sets are the same if they agree on each of the six algorithms.
abbrev none : AlgoSet
none = record {
  md5 = false;
  sha1 = false;
  sha256 = false;
  sha384 = false;
  sha512 = false;
  sha224 = false;
}

-- sets that differ in one algorithm are not the same
sets : (same_set none none ≡ true) × (same_set none (record none { md5 = true }) ≡ false)
    × (same_set none (record none { sha1 = true }) ≡ false)
    × (same_set none (record none { sha256 = true }) ≡ false)
    × (same_set none (record none { sha384 = true }) ≡ false)
    × (same_set none (record none { sha512 = true }) ≡ false)
    × (same_set none (record none { sha224 = true }) ≡ false)
sets = (refl, refl, refl, refl, refl, refl, refl)

-- The field `sig` shows labels of the types 3 and 6.
signatures : (signature_in (Some (3 ∷ 2 ∷ [])) ≡ 3 ∷ 2 ∷ [])
    × (signature_in (Some (6 ∷ 3 ∷ [])) ≡ 6 ∷ 3 ∷ [])
    × (signature_in (Some (5 ∷ [])) ≡ []) × (signature_in (Some (4 ∷ [])) ≡ [])
    × (signature_in None ≡ [])
signatures = (refl, refl, refl, refl, refl)

-- ---- content and attributes

-- A file of 4,096 bytes is one piece. A file of 262,144 bytes isn't too big.
one_piece : Tells (inode_of Off no_key true (replicate 4096 97) [] true) (
    (deed.Count (how.Write true false), Some told.Held) ∷
    (deed.Check 1 FileCheck measure 1, Some told.Quiet) ∷
    (deed.Take 1, Some told.Begun) ∷
    (deed.Chunk 1, Some told.Last) ∷
    (deed.Finish 1, Some (told.Grant (grant (Some (Added 1)) None true false))) ∷
    (deed.Write 1 262143 (88 ∷ []), Some told.Done) ∷
    (deed.Trunc 1 262144, Some told.Done) ∷
    [])
one_piece = (refl, refl)

-- a file of 4,097 bytes is two pieces
two_pieces : Tells (inode_of Off no_key true (replicate 4097 97) [] true) (
    (deed.Count (how.Read false), Some told.Held) ∷
    (deed.Check 1 FileCheck measure 1, Some told.Quiet) ∷
    (deed.Take 1, Some told.Begun) ∷
    (deed.Chunk 1, Some told.More) ∷
    (deed.Chunk 1, Some told.Last) ∷
    [])
two_pieces = (refl, refl)

-- The content is written, truncated and extended, and the mode and the owner are changed.
abbrev changes : Rows
changes =
    (deed.Count (how.Write false false), Some told.Held) ∷
    (deed.Check 1 FileCheck no_action 1, Some told.Quiet) ∷
    (deed.Write 1 4 (88 ∷ 89 ∷ []), Some told.Done) ∷
    (deed.Write 1 1 (90 ∷ []), Some told.Done) ∷
    (deed.Trunc 1 5, Some told.Done) ∷
    (deed.Trunc 1 7, Some told.Done) ∷
    (deed.SetMeta (change.Mode 33152), Some told.Done) ∷
    (deed.SetMeta (change.Owner 7 8), Some told.Done) ∷
    []

-- each deed of `changes` is permitted and has the outcome given
changes_tell : Tells plain changes
changes_tell = (refl, refl)

-- the content and the metadata after `changes`
changed : (content (after plain changes) ≡ 97 ∷ 90 ∷ 99 ∷ 0 ∷ 88 ∷ 0 ∷ 0 ∷ [])
    × (metadata (after plain changes) ≡ record {
      ino = 12;
      generation = 1;
      uid = 7;
      gid = 8;
      mode = 33152;
      place = 1;
    })
changed = (refl, refl)

-- The greatest type of a label is 6.
last_type : Tells plain (
    (deed.SetAttr (codes "security.ima") (Some (6 ∷ [])) true, Some told.Done) ∷
    (deed.SetAttr (codes "security.ima") (Some (7 ∷ [])) true, Some told.Invalid) ∷
    (deed.SetAttr (codes "security.ima") None false, Some told.NotAdmin) ∷
    (deed.SetAttr (codes "security.ima") None true, Some told.Done) ∷
    (deed.SetAttr (codes "security.ima") None true, Some told.NoData) ∷
    [])
last_type = (refl, refl)

-- ---- forbidden deeds

-- a reader and a writer, each counted and checked by an action that measures nothing, and a third
-- file that is only counted
abbrev opened : Rows
opened =
    (deed.Count (how.Read false), Some told.Held) ∷
    (deed.Count (how.Write false false), Some told.Held) ∷
    (deed.Check 1 FileCheck no_action 1, Some told.Quiet) ∷
    (deed.Check 2 FileCheck no_action 1, Some told.Quiet) ∷
    (deed.Count (how.Read false), Some told.Held) ∷
    []

-- a file that isn't open for writing can't be written, truncated, or closed as a writer
by_reader : (May plain (after plain opened) (deed.Write 1 0 (88 ∷ [])) → ⊥)
    × (May plain (after plain opened) (deed.Trunc 1 0) → ⊥)
    × (May plain (after plain opened) (deed.CloseTake 1) → ⊥)
by_reader = ((λ m. cc m.1), (λ m. cc m.1), (λ m. cc m.1))

-- a file that isn't open for reading can't be read, nor closed as a reader
by_writer : (May plain (after plain opened) (deed.Read 2 0 3) → ⊥)
    × (May plain (after plain opened) (deed.Close 2) → ⊥)
by_writer = ((λ m. cc m.1), (λ m. cc m.1))

-- a file that is only counted can't be read, taken or closed; a file that needs no take can't be
-- taken
before_check : (May plain (after plain opened) (deed.Read 5 0 3) → ⊥)
    × (May plain (after plain opened) (deed.Take 5) → ⊥)
    × (May plain (after plain opened) (deed.Close 5) → ⊥)
    × (May plain (after plain opened) (deed.Take 1) → ⊥)
before_check = ((λ m. cc m.0), (λ m. cc m), (λ m. cc m.0), (λ m. cc m))

-- a file whose collection has begun can't be checked or read, and can be finished only after its
-- last piece
abbrev begun : Rows
begun =
    (deed.Count (how.Read false), Some told.Held) ∷
    (deed.Check 1 FileCheck measure 1, Some told.Quiet) ∷
    (deed.Take 1, Some told.Begun) ∷
    []

-- none of these deeds is permitted after `begun`
before_grant : (May plain (after plain begun) (deed.Check 1 FileCheck measure 1) → ⊥)
    × (May plain (after plain begun) (deed.Read 1 0 3) → ⊥)
    × (May plain (after plain begun) (deed.Finish 1) → ⊥)
    × (May plain (after plain begun) (deed.CloseChunk 1) → ⊥)
    × (May plain (after plain begun) (deed.Post 0) → ⊥)
before_grant = ((λ m. cc m), (λ m. cc m.0), (λ m. cc m), (λ m. cc m), (λ m. m))
