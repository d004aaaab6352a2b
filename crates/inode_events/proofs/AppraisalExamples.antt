-- Examples of appraisal, of labels written at a close, and of fix mode.
use Rattle.std.proofs.Common.{◌≡◌, ℕ, true, false, List, [], ◌∷◌, Option, Some, None, refl}
use Rattle.std.specs.Prelude.{replicate}
use Rattle.hash_algos.specs.Digest.{digest_of}
use Rattle.hash_algos.specs.declared.algo.Algo.{Algo}
use Rattle.hash_algos.specs.declared.algo.Algo.TheVariants.{Sha1, Sha256}
use Rattle.hash_algos.proofs.HashLemmas.{length-hash}
use Rattle.inode_meta.specs.declared.appraisal.EvmStatus.TheVariants as status
use Rattle.inode_meta.specs.declared.appraisal.Mode.TheVariants.{Enforce, Fix}
use Rattle.label_values.specs.declared.verdict.Cause.TheVariants as cause
use Rattle.label_values.specs.declared.verdict.Verdict.TheVariants.{Pass, Deny}
use Rattle.policy_rules.specs.declared.rule.Func.TheVariants.{FileCheck}
use Rattle.inode_events.specs.declared.deed.Deed.TheVariants as deed
use Rattle.inode_events.specs.declared.deed.How.TheVariants as how
use Rattle.inode_events.specs.declared.told.Told.TheVariants as told
use Rattle.evm_verify.specs.Setup.{Setup}
use Rattle.evm_verify.specs.Status.{evm_status, renewed}
use Rattle.label_values.specs.Labels.{collect_algo, ends_in_zeros, label_of, plain_algo, read_label}
use Rattle.label_values.specs.Verdicts.{is_old, is_pass, is_signature, judge, mend_for}
use Rattle.label_values.specs.declared.verdict.Verdict.{Verdict}
use Rattle.inode_meta.specs.declared.appraisal.EvmStatus.{EvmStatus}
use Rattle.inode_meta.specs.declared.appraisal.Need.TheVariants.{Any, Signature}
use Rattle.inode_meta.specs.declared.appraisal.Need.{Need}
use Rattle.inode_meta.specs.declared.appraisal.Slot.{Slot}
use Rattle.inode_meta.specs.declared.appraisal.Slot.TheVariants as slot
use Rattle.hash_algos.specs.declared.algo_set.AlgoSet.{AlgoSet}
use Rattle.inode_events.specs.Verdicts.{verdict_in_force}
use Rattle.std.specs.Prelude.{◌⊎◌}
use Rattle.std.proofs.Common.{if◌then◌else◌, inl, inr, Bool, suc, ◌&&◌, not, ap, subst, sym, ◌∙◌, length, take}
use Rattle.std.specs.Str.{bytes_eq}
use Rattle.std.proofs.Math.Seq.{take-length}
use Rattle.std.proofs.lemmas.Slice.Eq.{bytes_eq-Decides}
use Rattle.ima_templates.specs.xattrs.Attrs.{Pair}
use Rattle.evm_verify.specs.Input.{evm_input, evm_value}
use Rattle.inode_events.specs.Inode.{Inode}
use Rattle.inode_events.specs.Integrity.{attributes, in_force, label, label_in, labelled_with, status as status_of}
use Rattle.inode_events.specs.Grants.{is_mend}
use Rattle.inode_events.specs.Says.{close_take_told, says}
use Rattle.inode_events.proofs.Examples.{Rows, Tells, abc, after, appraise, enforcing, fixing, grant, inode_of, meta, with_key}
use Rattle.inode_events.specs.declared.told.Told.{Told}
use Rattle.ima_templates.specs.declared.entry.Placed.TheVariants.{Added}

-- a label has its own digest at the digest's offset: the only fact here that isn't computed, since
-- proofs don't compute hashes
same_front : (xs : List ℕ) → bytes_eq xs (take (length xs) xs) ≡ true
same_front xs = ap (bytes_eq xs) (take-length xs) ∙ (bytes_eq-Decides xs xs).1 refl

-- a file with the label of its content passes, if its HMAC is right or there is no key
right_label : (s : EvmStatus) (bytes : List ℕ) (size : ℕ) → (s ≡ status.Pass) ⊎ (s ≡ status.Unknown)
    → judge Any None (Some (label_of (digest_of Sha256 bytes))) s
    (digest_of Sha256 bytes) Sha256 size false ≡ Pass
right_label s bytes size (inl e) =
    subst (λ (x : EvmStatus). judge Any None (Some (label_of (digest_of Sha256 bytes))) x
    (digest_of Sha256 bytes) Sha256 size false ≡ Pass) (sym e)
    (rw (same_front (digest_of Sha256 bytes).bytes) refl)
right_label s bytes size (inr e) =
    subst (λ (x : EvmStatus). judge Any None (Some (label_of (digest_of Sha256 bytes))) x
    (digest_of Sha256 bytes) Sha256 size false ≡ Pass) (sym e)
    (rw (same_front (digest_of Sha256 bytes).bytes) refl)

-- Fix mode labels a file without a label, by a grant that voids its own digest.
abbrev fixed : Rows
fixed =
    (deed.Count (how.Read false), Some told.Held) ∷
    (deed.Check 1 FileCheck appraise 1, Some told.Quiet) ∷
    (deed.Take 1, Some told.Begun) ∷
    (deed.Chunk 1, Some told.Last) ∷
    (deed.Finish 1, Some (told.Grant (grant None (Some (Deny cause.MissingHash)) true true))) ∷
    []

-- each deed of `fixed` is permitted and has the outcome given
fixed_tells : Tells fixing fixed
fixed_tells = (refl, refl)

-- right after `fixed` no digest is in force, and the label is that of the content
fixed_label : (label fixing (after fixing fixed) ≡ Some (label_of (digest_of Sha256 abc)))
    × (in_force fixing (after fixing fixed) ≡ None)
fixed_label = (refl, refl)

-- After fix mode wrote the label, the next open hashes the file again, and the file passes by its
-- new label.
abbrev fixed_again : Rows
fixed_again =
    (deed.Count (how.Read false), Some told.Held) ∷
    (deed.Check 1 FileCheck appraise 1, Some told.Quiet) ∷
    (deed.Take 1, Some told.Begun) ∷
    (deed.Chunk 1, Some told.Last) ∷
    (deed.Finish 1, Some (told.Grant (grant None (Some (Deny cause.MissingHash)) true true))) ∷
    (deed.Count (how.Read false), Some told.Held) ∷
    (deed.Check 6 FileCheck appraise 1, Some told.Quiet) ∷
    (deed.Take 6, Some told.Begun) ∷
    (deed.Chunk 6, Some told.Last) ∷
    []

-- each deed of `fixed_again` is permitted and has the outcome given
fixed_again_tells : Tells fixing fixed_again
fixed_again_tells = (refl, refl)

-- the outcome of the second finish, by the verdict on the file with its new label
abbrev told_again : Verdict → Option Told
told_again v = Some (told.Grant (grant None (Some v) true (is_mend (mend_for v
    (judge Any None (Some (label_of (digest_of Sha256 abc))) status.Pass
    (digest_of Sha256 abc) Sha256 3 false)
    status.Unknown (read_label (Some (label_of (digest_of Sha256 abc))) Sha256)))))

-- at the second finish the file passes by the new label
fixed_passes : says fixing (after fixing fixed_again) (Added 0) (deed.Finish 6)
    ≡ Some (told.Grant (grant None (Some Pass) true false))
fixed_passes = ap told_again (right_label status.Unknown abc 3 (inr refl))

-- the inode of a file that is created under enforced appraisal with a key
abbrev keyed : List ℕ → Inode
keyed key = inode_of Enforce (with_key key) false [] [] true

-- A new file passes without a label, and the close of its last writer labels it. An open without
-- `create` doesn't find an absent file.
abbrev new_file : Rows
new_file =
    (deed.Count (how.Read false), Some told.NotFound) ∷
    (deed.Count (how.Write false true), Some told.Held) ∷
    (deed.Check 2 FileCheck appraise 1, Some told.Quiet) ∷
    (deed.Take 2, Some told.Begun) ∷
    (deed.Chunk 2, Some told.Last) ∷
    (deed.Finish 2, Some (told.Grant (grant None (Some Pass) true false))) ∷
    (deed.Write 2 0 abc, Some told.Done) ∷
    (deed.CloseTake 2, Some told.Begun) ∷
    (deed.CloseChunk 2, Some told.Last) ∷
    (deed.CloseFinish 2, Some told.LabelledDropped) ∷
    []

-- each deed of `new_file` is permitted and has the outcome given
new_file_tells : (key : List ℕ) → Tells (keyed key) new_file
new_file_tells key = (refl, refl)

-- bytes are equal to themselves
same_bytes : (xs : List ℕ) → bytes_eq xs xs ≡ true
same_bytes xs = (bytes_eq-Decides xs xs).1 refl

-- after `new_file` the label is that of the content
new_label : (key : List ℕ)
    → label (keyed key) (after (keyed key) new_file) ≡ Some (label_of (digest_of Sha256 abc))
new_label key = refl

-- after `new_file` the HMAC is right
new_status : (key : List ℕ) → status_of (keyed key) (after (keyed key) new_file) ≡ status.Pass
new_status key = rw (same_bytes
    (evm_value key (evm_input (keyed key).settings.evm
    (attributes (keyed key) (after (keyed key) new_file)) meta))) refl

-- The close of a longer file hashes its pieces one by one.
long_close : (key : List ℕ) → Tells (inode_of Enforce (with_key key) false [] [] true) (
    (deed.Count (how.Write false true), Some told.Held) ∷
    (deed.Check 1 FileCheck appraise 1, Some told.Quiet) ∷
    (deed.Take 1, Some told.Begun) ∷
    (deed.Chunk 1, Some told.Last) ∷
    (deed.Finish 1, Some (told.Grant (grant None (Some Pass) true false))) ∷
    (deed.Write 1 0 (replicate 5000 97), Some told.Done) ∷
    (deed.CloseTake 1, Some told.Begun) ∷
    (deed.CloseChunk 1, Some told.More) ∷
    (deed.CloseChunk 1, Some told.Last) ∷
    (deed.CloseFinish 1, Some told.LabelledDropped) ∷
    [])
long_close key = (refl, refl)

-- A file without a label is refused under enforced appraisal.
abbrev refused : Rows
refused =
    (deed.Count (how.Read false), Some told.Held) ∷
    (deed.Check 1 FileCheck appraise 1, Some told.Quiet) ∷
    (deed.Take 1, Some told.Begun) ∷
    (deed.Chunk 1, Some told.Last) ∷
    (deed.Finish 1, Some (told.Grant (grant None (Some (Deny cause.MissingHash)) false false))) ∷
    (deed.Close 1, Some told.Dropped) ∷
    []

-- each deed of `refused` is permitted and has the outcome given
refused_tells : Tells enforcing refused
refused_tells = (refl, refl)

-- The verdict of `refused` is in force only for the slot, the need and the algorithms of its check.
abbrev kept : Slot → Need → Option AlgoSet → Option Verdict
kept slot need algos =
    verdict_in_force enforcing (record { slot = slot; need = need; algos = algos })
    (after enforcing refused)

-- the set of all six algorithms
abbrev all_algos : AlgoSet
all_algos = record {
  md5 = true;
  sha1 = true;
  sha256 = true;
  sha384 = true;
  sha512 = true;
  sha224 = true;
}

-- the verdict is in force under the key of its check, and not under a key that differs in one part
verdict_key : (kept slot.File Any None ≡ Some (Deny cause.MissingHash))
    × (kept slot.Mmap Any None ≡ None) × (kept slot.Bprm Any None ≡ None)
    × (kept slot.File Signature None ≡ None) × (kept slot.File Any (Some all_algos) ≡ None)
verdict_key = (refl, refl, refl, refl, refl)

-- Fix mode renews an HMAC in the older form, and doesn't change the label.
abbrev old_fixed : Rows
old_fixed =
    (deed.Count (how.Read false), Some told.Held) ∷
    (deed.Check 1 FileCheck appraise 1, Some told.Quiet) ∷
    (deed.Take 1, Some told.Begun) ∷
    (deed.Chunk 1, Some told.Last) ∷
    (deed.Finish 1, Some (told.Grant (grant None (Some (Deny cause.InvalidHmac)) true true))) ∷
    []

-- the grant of `old_fixed` only renews the HMAC among the attributes
old_renewed : (evm : Setup) (attrs : List Pair) → evm_status evm attrs meta ≡ status.Old
    → attributes (inode_of Fix evm true abc attrs true)
    (after (inode_of Fix evm true abc attrs true) old_fixed) ≡ renewed evm attrs meta
old_renewed evm attrs old =
    ap (λ (s : EvmStatus). if is_old s then renewed evm attrs meta
    else labelled_with (inode_of Fix evm true abc attrs true)
    (digest_of (collect_algo (label_in attrs) Sha256) abc) meta attrs) old

-- a sealed file passes: its label is that of `abc`, and its HMAC is right
passes : (evm : Setup) (attrs : List Pair) → label_in attrs ≡ Some (label_of (digest_of Sha256 abc))
    → evm_status evm attrs meta ≡ status.Pass
    → judge Any None (label_in attrs) (evm_status evm attrs meta)
    (digest_of (collect_algo (label_in attrs) Sha256) abc) Sha256 3 false ≡ Pass
passes evm attrs labelled fits =
    ap (λ (l : Option (List ℕ)). judge Any None l (evm_status evm attrs meta)
    (digest_of (collect_algo l Sha256) abc) Sha256 3 false) labelled
    ∙ right_label (evm_status evm attrs meta) abc 3 (inl fits)

-- the file passes by the algorithm that its label names
abbrev IsRight : Setup → List Pair → Type 0
IsRight evm attrs = judge Any None (label_in attrs) (evm_status evm attrs meta)
    (digest_of (collect_algo (label_in attrs) Sha256) abc) Sha256 3 false ≡ Pass

-- the outcomes of the deeds of `two_writers`, by the verdict on the file and whether its label is a
-- signature
abbrev two_told : Verdict → Bool → List (Option Told)
two_told v signed =
    Some told.Held ∷ Some told.Quiet ∷ Some told.Begun ∷ Some told.Last
    ∷ Some (told.Grant (grant None (Some v) (is_pass v) false)) ∷ Some told.Done
    ∷ Some (close_take_told (not signed && true) 1)
    ∷ Some told.Held ∷ Some told.Quiet ∷ None ∷ Some told.Last ∷ Some told.Dropped
    ∷ Some (told.Grant (grant None (Some Pass) true false))
    ∷ Some (close_take_told (not signed && true) 1)
    ∷ Some told.Last ∷ Some told.LabelledDropped ∷ []

-- A writer closes after another has opened the file: its collection ends without a label, and the
-- close of the other writes it. A take waits until the open collection ends. The file has a right
-- label by any algorithm, and no signature.
two_writers : (evm : Setup) (attrs : List Pair) → IsRight evm attrs
    → is_signature (read_label (label_in attrs) Sha256) ≡ false
    → Tells (inode_of Enforce evm true abc attrs true) (
    (deed.Count (how.Write false false), Some told.Held) ∷
    (deed.Check 1 FileCheck appraise 1, Some told.Quiet) ∷
    (deed.Take 1, Some told.Begun) ∷
    (deed.Chunk 1, Some told.Last) ∷
    (deed.Finish 1, Some (told.Grant (grant None (Some Pass) true false))) ∷
    (deed.Write 1 0 (88 ∷ []), Some told.Done) ∷
    (deed.CloseTake 1, Some told.Begun) ∷
    (deed.Count (how.Write false false), Some told.Held) ∷
    (deed.Check 8 FileCheck appraise 1, Some told.Quiet) ∷
    (deed.Take 8, None) ∷
    (deed.CloseChunk 1, Some told.Last) ∷
    (deed.CloseFinish 1, Some told.Dropped) ∷
    (deed.Take 8, Some (told.Grant (grant None (Some Pass) true false))) ∷
    (deed.CloseTake 8, Some told.Begun) ∷
    (deed.CloseChunk 8, Some told.Last) ∷
    (deed.CloseFinish 8, Some told.LabelledDropped) ∷
    [])
two_writers evm attrs right unsigned = (
  refl,
  ap (λ (v : Verdict). two_told v (is_signature (read_label (label_in attrs) Sha256)))
      right ∙ ap (λ (b : Bool). two_told Pass b) unsigned,
)

-- a sealed file has a right label, as `two_writers` requires
sealed_is_right : (evm : Setup) (attrs : List Pair)
    → label_in attrs ≡ Some (label_of (digest_of Sha256 abc))
    → evm_status evm attrs meta ≡ status.Pass
    → IsRight evm attrs × (is_signature (read_label (label_in attrs) Sha256) ≡ false)
sealed_is_right evm attrs labelled fits = (
  passes evm attrs labelled fits,
  ap (λ (l : Option (List ℕ)). is_signature (read_label l Sha256)) labelled,
)

-- a type 1 label with a SHA-1 has 21 bytes, which identifies its algorithm
sha1_length : length (1 ∷ (digest_of Sha1 abc).bytes) ≡ 21
sha1_length = ap (λ (n : ℕ). suc n) (length-hash Sha1 abc)

plain_sha1 : (bytes : List ℕ) → length bytes ≡ 21 → ends_in_zeros bytes ≡ false
    → plain_algo bytes Sha256 ≡ Sha1
plain_sha1 bytes long nonzero = rw (nonzero, long) refl

sha1_named : ends_in_zeros (1 ∷ (digest_of Sha1 abc).bytes) ≡ false
    → collect_algo (Some (1 ∷ (digest_of Sha1 abc).bytes)) Sha256 ≡ Sha1
sha1_named nonzero = plain_sha1 (1 ∷ (digest_of Sha1 abc).bytes) sha1_length nonzero

sha1_passes : (s : EvmStatus) → s ≡ status.Pass
    → judge Any None (Some (1 ∷ (digest_of Sha1 abc).bytes)) s (digest_of Sha1 abc) Sha256 3 false
    ≡ Pass
sha1_passes s e = subst
    (λ (x : EvmStatus). judge Any None (Some (1 ∷ (digest_of Sha1 abc).bytes)) x
    (digest_of Sha1 abc) Sha256 3 false ≡ Pass) (sym e)
    (rw (same_front (digest_of Sha1 abc).bytes) refl)

-- a file has a right label with the SHA-1 of its content, in the form that the kernel writes if the
-- digest doesn't end in four zero bytes
sha1_is_right : (evm : Setup) (attrs : List Pair)
    → label_in attrs ≡ Some (1 ∷ (digest_of Sha1 abc).bytes)
    → ends_in_zeros (1 ∷ (digest_of Sha1 abc).bytes) ≡ false
    → evm_status evm attrs meta ≡ status.Pass
    → IsRight evm attrs × (is_signature (read_label (label_in attrs) Sha256) ≡ false)
sha1_is_right evm attrs labelled nonzero fits = (
  ap (λ (l : Option (List ℕ)). judge Any None l (evm_status evm attrs meta)
      (digest_of (collect_algo l Sha256) abc) Sha256 3 false) labelled
      ∙ ap (λ (a : Algo). judge Any None (Some (1 ∷ (digest_of Sha1 abc).bytes))
      (evm_status evm attrs meta) (digest_of a abc) Sha256 3 false) (sha1_named nonzero)
      ∙ sha1_passes (evm_status evm attrs meta) fits,
  ap (λ (l : Option (List ℕ)). is_signature (read_label l Sha256)) labelled,
)
