-- Verdicts on labels, and what mode fix writes over them.
use Rattle.std.specs.Prelude.{◌≡◌, ℕ, false, List, ◌∷◌, replicate, Option, Some, None}
use Rattle.inode_events.specs.hashes.AlgoSet.{no_algos, with_algo}
use Rattle.inode_events.specs.hashes.declared.algo.Algo.{Algo}
use Rattle.inode_events.specs.hashes.declared.algo.Algo.TheVariants.{Sha1, Sha256}
use Rattle.inode_events.specs.hashes.declared.algo_set.AlgoSet.{AlgoSet}
use Rattle.inode_events.specs.hashes.declared.digest.Digest.{Digest}
use Rattle.inode_events.specs.labels.Labels.{read_label}
use Rattle.inode_events.specs.labels.Verdicts.{judge, mend_for}
use Rattle.inode_events.specs.labels.declared.verdict.Cause.TheVariants as cause
use Rattle.inode_events.specs.labels.declared.verdict.Mend.{Mend}
use Rattle.inode_events.specs.labels.declared.verdict.Mend.TheVariants as mend
use Rattle.inode_events.specs.labels.declared.verdict.Verdict.{Verdict}
use Rattle.inode_events.specs.labels.declared.verdict.Verdict.TheVariants.{Deny, Pass}
use Rattle.inode_events.specs.meta.declared.appraisal.EvmStatus.{EvmStatus}
use Rattle.inode_events.specs.meta.declared.appraisal.EvmStatus.TheVariants as status
use Rattle.inode_events.specs.meta.declared.appraisal.Need.{Need}
use Rattle.inode_events.specs.meta.declared.appraisal.Need.TheVariants as need

-- the digest of a file, whose SHA-256 is taken to be 32 bytes 7
abbrev pub digest : Digest
digest = record { algo = Sha256; bytes = replicate 32 7 }

-- the label of that digest
abbrev pub right_label : List ℕ
right_label = 4 ∷ 4 ∷ replicate 32 7

-- the label of another digest
abbrev pub wrong_label : List ℕ
wrong_label = 4 ∷ 4 ∷ replicate 32 8

-- a label that is a signature
abbrev pub signature : List ℕ
signature = 3 ∷ 2 ∷ 4 ∷ replicate 7 0

-- the set of this algorithm alone
abbrev pub only : Algo → Option AlgoSet
only algo = Some (with_algo no_algos algo)

-- the verdict on a file of one byte that isn't new
abbrev pub judged : Need → Option AlgoSet → Option (List ℕ) → EvmStatus → Verdict
judged wanted algos label hmac = judge wanted algos label hmac digest Sha256 1 false

-- what mode fix writes over this label, on that verdict
abbrev pub mended : Option AlgoSet → List ℕ → EvmStatus → Mend
mended algos label hmac =
    mend_for (judged need.Any algos (Some label) hmac)
    (judged need.Any algos (Some label) status.Pass) hmac
    (read_label (Some label) Sha256)

-- the verdict in each case, and what is written
pub record LabelExamples : Type 0 where
  -- a label with the file's digest, and one with another
  pub fits : judged need.Any None (Some right_label) status.Pass ≡ Pass
  pub wrong : judged need.Any None (Some wrong_label) status.Pass ≡ Deny cause.InvalidHash
  -- a right label where EVM finds no protected attribute, no HMAC, a wrong one, one in the older
  -- form, or where there is no key
  pub no_xattrs : judged need.Any None (Some right_label) status.NoXattrs ≡ Deny cause.MissingHmac
  pub no_label : judged need.Any None (Some right_label) status.NoLabel ≡ Deny cause.MissingHmac
  pub wrong_hmac : judged need.Any None (Some right_label) status.Fail ≡ Deny cause.InvalidHmac
  pub old_hmac : judged need.Any None (Some right_label) status.Old ≡ Deny cause.InvalidHmac
  pub no_key : judged need.Any None (Some right_label) status.Unknown ≡ Pass
  -- `appraise_algos=` with the label's algorithm, and without it
  pub allowed : judged need.Any (only Sha256) (Some right_label) status.Pass ≡ Pass
  pub denied : judged need.Any (only Sha1) (Some right_label) status.Pass
      ≡ Deny cause.DeniedHashAlgorithm
  -- a wrong digest by an algorithm that is denied
  pub wrong_and_denied : judged need.Any (only Sha1) (Some wrong_label) status.Pass
      ≡ Deny cause.InvalidHash
  -- a required signature, over a digest that fits and over a wrong one
  pub unsigned : judged need.Signature None (Some right_label) status.Pass
      ≡ Deny cause.SignatureRequired
  pub unsigned_and_wrong : judged need.Signature None (Some wrong_label) status.Pass
      ≡ Deny cause.SignatureRequired
  -- a signature, under a right HMAC and under a missing or wrong one
  pub signed : judged need.Signature None (Some signature) status.Pass
      ≡ Deny cause.UnsupportedSignature
  pub signed_no_label : judged need.Signature None (Some signature) status.NoLabel
      ≡ Deny cause.MissingHmac
  pub signed_wrong_hmac : judged need.Signature None (Some signature) status.Fail
      ≡ Deny cause.InvalidHmac
  -- mode fix writes the label over a wrong digest, and leaves a signature and a denied algorithm
  pub mended_wrong : mended None wrong_label status.Pass ≡ mend.Label
  pub mended_unsealed : mended None right_label status.NoLabel ≡ mend.Label
  pub mended_signature : mended None signature status.Pass ≡ mend.Nothing
  pub mended_unsealed_signature : mended None signature status.NoLabel ≡ mend.Nothing
  pub mended_denied : mended (only Sha1) right_label status.Pass ≡ mend.Nothing
  -- nor does it write over a label that fits
  pub mended_right : mended None right_label status.Pass ≡ mend.Nothing
