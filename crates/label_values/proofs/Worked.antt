-- The definitions applied to concrete labels, each by computation.
use Rattle.std.proofs.Common.{◌≡◌, ℕ, Bool, true, false, List, [], ◌∷◌, ◌++◌, replicate, refl}
use Rattle.std.specs.Prelude.{Option, Some, None}
use Rattle.hash_algos.specs.declared.algo.Algo.{Algo}
use Rattle.hash_algos.specs.declared.algo.Algo.TheVariants.{Md5, Sha1, Sha256, Sha512}
use Rattle.hash_algos.specs.declared.algo_set.AlgoSet.{AlgoSet}
use Rattle.hash_algos.specs.declared.digest.Digest.{Digest}
use Rattle.inode_meta.specs.declared.appraisal.EvmStatus.{EvmStatus}
use Rattle.inode_meta.specs.declared.appraisal.EvmStatus.TheVariants as status
use Rattle.inode_meta.specs.declared.appraisal.Need.{Need}
use Rattle.inode_meta.specs.declared.appraisal.Need.TheVariants as need
use Rattle.label_values.specs.Labels.{collect_algo, label_of, read_label}
use Rattle.label_values.specs.Verdicts.{judge, mend_for}
use Rattle.label_values.specs.declared.label.Label.TheVariants as label
use Rattle.label_values.specs.declared.verdict.Cause.TheVariants as cause
use Rattle.label_values.specs.declared.verdict.Mend.{Mend}
use Rattle.label_values.specs.declared.verdict.Mend.TheVariants as mend
use Rattle.label_values.specs.declared.verdict.Verdict.{Verdict}
use Rattle.label_values.specs.declared.verdict.Verdict.TheVariants.{Pass, Deny}

-- ---- the algorithm, under the default SHA-256

-- a type 1 label with a digest of n bytes, none of which is zero
abbrev pub plain : ℕ → Option (List ℕ)
plain n = Some (1 ∷ replicate n 7)

md5_by_length : collect_algo (plain 16) Sha256 ≡ Md5
md5_by_length = refl

sha1_by_length : collect_algo (plain 20) Sha256 ≡ Sha1
sha1_by_length = refl

other_length : collect_algo (plain 32) Sha256 ≡ Sha256
other_length = refl

padded_md5 : collect_algo (Some (1 ∷ replicate 16 7 ++ replicate 4 0)) Sha256 ≡ Md5
padded_md5 = refl

by_number : collect_algo (Some (4 ∷ 6 ∷ [])) Sha256 ≡ Sha512
by_number = refl

unknown_number : collect_algo (Some (4 ∷ 99 ∷ [])) Sha256 ≡ Sha256
unknown_number = refl

no_number : collect_algo (Some (4 ∷ [])) Sha256 ≡ Sha256
no_number = refl

signed : collect_algo (Some (3 ∷ 2 ∷ 6 ∷ replicate 7 0)) Sha256 ≡ Sha512
signed = refl

header_alone : collect_algo (Some (3 ∷ 2 ∷ 6 ∷ replicate 6 0)) Sha256 ≡ Sha256
header_alone = refl

signed_by_version_1 : collect_algo (Some (3 ∷ 1 ∷ 6 ∷ replicate 7 0)) Sha256 ≡ Sha256
signed_by_version_1 = refl

-- ---- parsing and writing

empty_label : read_label (Some []) Sha256 ≡ label.Missing
empty_label = refl

verity_label : read_label (Some (6 ∷ [])) Sha256 ≡ label.Signature
verity_label = refl

type_2_label : read_label (Some (2 ∷ [])) Sha256 ≡ label.Unknown
type_2_label = refl

short_type_4_label : read_label (Some (4 ∷ [])) Sha256 ≡ label.Sum Sha256 2
short_type_4_label = refl

sha1_label : label_of (record { algo = Sha1; bytes = replicate 20 7 }) ≡ 1 ∷ replicate 20 7
sha1_label = refl

sha1_with_zeros : label_of (record { algo = Sha1; bytes = replicate 16 7 ++ replicate 4 0 }) ≡ 4 ∷ 2
    ∷ replicate 16 7 ++ replicate 4 0
sha1_with_zeros = refl

sha256_label : label_of (record { algo = Sha256; bytes = replicate 32 7 }) ≡ 4 ∷ 4 ∷ replicate 32 7
sha256_label = refl

-- ---- the verdict on a file of one byte whose SHA-1 is taken to be 20 bytes 7

abbrev pub sha1_of_file : List ℕ
sha1_of_file = replicate 20 7

abbrev pub judged : List ℕ → Verdict
judged bytes = judge need.Any None (Some bytes) status.Pass (record {
  algo = Sha1;
  bytes = sha1_of_file;
}) Sha1 1 false

fits : judged (1 ∷ sha1_of_file) ≡ Pass
fits = refl

longer : judged (4 ∷ 2 ∷ sha1_of_file ++ 1 ∷ []) ≡ Pass
longer = refl

shorter : judged (4 ∷ 2 ∷ replicate 19 7) ≡ Deny cause.InvalidHash
shorter = refl

unknown_type : judged (7 ∷ []) ≡ Deny cause.UnknownData
unknown_type = refl

unlabelled : (new : Bool)
    → judge need.Signature None None status.Fail (record {
      algo = Sha1;
      bytes = sha1_of_file;
    }) Sha1 1 new ≡ Deny cause.SignatureRequired
unlabelled true = refl
unlabelled false = refl

new_and_empty : judge need.Signature None None status.Fail (record {
  algo = Sha1;
  bytes = sha1_of_file;
}) Sha1 0 true ≡ Pass
new_and_empty = refl

-- the attributes that fix mode writes on the verdict of this step
abbrev mended : Need → Option AlgoSet → Option (List ℕ) → EvmStatus → Digest → Algo → ℕ → Bool
    → Mend
mended n algos bytes s file default size new =
    mend_for (judge n algos bytes s file default size new)
    (judge n algos bytes status.Pass file default size new) s (read_label bytes default)

-- a right label under an HMAC in the older form: only the HMAC is written
migrated : mended need.Any None (Some (1 ∷ sha1_of_file)) status.Old (record {
  algo = Sha1;
  bytes = sha1_of_file;
}) Sha1 1 false ≡ mend.Hmac
migrated = refl

-- a wrong label under an HMAC in the older form: nothing is written
not_migrated : mended need.Any None (Some (1 ∷ replicate 20 8)) status.Old (record {
  algo = Sha1;
  bytes = sha1_of_file;
}) Sha1 1 false ≡ mend.Nothing
not_migrated = refl

relabelled : mended need.Any None (Some (1 ∷ replicate 20 8)) status.Pass (record {
  algo = Sha1;
  bytes = sha1_of_file;
}) Sha1 1 false ≡ mend.Label
relabelled = refl
