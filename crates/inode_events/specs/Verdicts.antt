-- The verdicts in force: one for each slot, need and set of allowed algorithms.
use Rattle.std.specs.Prelude.{ℕ, Bool, true, false, ◌&&◌, not, List, [], ◌∷◌, length, Option, Some, None, if◌then◌else◌}
use Rattle.std.specs.Option.{option_or}
use Rattle.hash_algos.specs.Digest.{digest_of}
use Rattle.hash_algos.specs.declared.algo_set.AlgoSet.{AlgoSet}
use Rattle.hash_algos.specs.declared.digest.Digest.{Digest}
use Rattle.inode_meta.specs.declared.appraisal.Need.{Need}
use Rattle.inode_meta.specs.declared.appraisal.Need.TheVariants as need
use Rattle.inode_meta.specs.declared.appraisal.Slot.{Slot}
use Rattle.inode_meta.specs.declared.appraisal.Slot.TheVariants as slot
use Rattle.label_values.specs.Verdicts.{judge}
use Rattle.label_values.specs.declared.verdict.Verdict.{Verdict}
use Rattle.inode_events.specs.Checks.{Check, last_check, slot_of}
use Rattle.inode_events.specs.Inode.{Inode}
use Rattle.inode_events.specs.Integrity.{Digests, chosen_algo, in_force, label, status, voids_digest}
use Rattle.inode_events.specs.State.{content, new}
use Rattle.inode_events.specs.declared.deed.Deed.{Deed}
use Rattle.inode_events.specs.declared.deed.Deed.TheVariants as deed
use Rattle.inode_events.specs.declared.told.Event.{Event}
use Rattle.inode_events.specs.declared.told.Told.{Told}
use Rattle.inode_events.specs.declared.told.Told.TheVariants as told

-- ---- the key of a verdict

-- "no algorithms given" is a different key from every set
pub record Key : Type 0 where
  pub slot : Slot
  pub need : Need
  pub algos : Option AlgoSet

abbrev pub key_of : Check → Key
key_of check =
    record { slot = slot_of check.func; need = check.action.need; algos = check.action.algos }

abbrev pub same_slot : Slot → Slot → Bool
same_slot slot.File slot.File = true
same_slot slot.Mmap slot.Mmap = true
same_slot slot.Bprm slot.Bprm = true
same_slot _ _ = false

abbrev pub same_need : Need → Need → Bool
same_need need.Any need.Any = true
same_need need.Signature need.Signature = true
same_need _ _ = false

abbrev pub same_bool : Bool → Bool → Bool
same_bool true b = b
same_bool false b = not b

abbrev pub same_set : AlgoSet → AlgoSet → Bool
same_set a b =
    same_bool a.md5 b.md5 && same_bool a.sha1 b.sha1 && same_bool a.sha256 b.sha256
    && same_bool a.sha384 b.sha384 && same_bool a.sha512 b.sha512 && same_bool a.sha224 b.sha224

abbrev pub same_algos : Option AlgoSet → Option AlgoSet → Bool
same_algos None None = true
same_algos (Some a) (Some b) = same_set a b
same_algos _ _ = false

abbrev pub same_key : Key → Key → Bool
same_key a b = same_slot a.slot b.slot && same_need a.need b.need && same_algos a.algos b.algos

-- ---- the verdict in force

-- a change of mode or owner voids the verdicts but not the digest
abbrev pub voids_verdicts : Deed → Told → List Event → Option Digests → Bool
voids_verdicts (deed.SetMeta change) told.Done before digests = true
voids_verdicts d t before digests = voids_digest d t before digests

-- a grant's verdict is cached under the key of the file's last check
abbrev pub verdict_kept : Key → ℕ → Option Verdict → List Event → Option Verdict → Option Verdict
verdict_kept key file verdict before old =
    if same_key key (key_of (last_check file before)) then option_or verdict old else old

abbrev pub verdict_given : Key → Deed → Told → List Event → Option Verdict → Option Verdict
verdict_given key (deed.Take file) (told.Grant grant) before old =
    verdict_kept key file grant.verdict before old
verdict_given key (deed.Finish file) (told.Grant grant) before old =
    verdict_kept key file grant.verdict before old
verdict_given key _ _ before old = old

-- the last verdict that a take or finish gave under the key, unless it has been voided since
abbrev pub verdict_in_force : Inode → Key → List Event → Option Verdict
verdict_in_force inode key [] = None
verdict_in_force inode key (e ∷ before) =
    if voids_verdicts e.deed e.told before (in_force inode before) then None
    else verdict_given key e.deed e.told before (verdict_in_force inode key before)

-- ---- fresh verdicts

-- the verdict on a file with this digest, over its present attributes, metadata and size
abbrev pub judged : Inode → Need → Option AlgoSet → Digest → List Event → Verdict
judged inode need algos digest before =
    judge need algos (label inode before) (status inode before) digest inode.settings.hash
    (length (content before)) (new before)

-- the digest of the present content, by the algorithm that the present label names
abbrev pub fresh_digest : Inode → List Event → Digest
fresh_digest inode before = digest_of (chosen_algo inode before) (content before)

-- the verdict over the present content, attributes and metadata
abbrev pub fresh_verdict : Inode → Need → Option AlgoSet → List Event → Verdict
fresh_verdict inode need algos before = judged inode need algos (fresh_digest inode before) before
