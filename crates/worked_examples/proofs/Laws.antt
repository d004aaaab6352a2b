-- The examples of what the laws of journals speak of.
use Rattle.std.proofs.Common.{◌≡◌, ℕ, ◌≤◌, true, false, List, Option, Some, None, refl, sym, subst, arith}
use Rattle.std.specs.Prelude.{◌≢◌}
use Rattle.std.proofs.lemmas.Option.{none-some, same_Some}
use Rattle.inode_events.proofs.Deciding.{legal_by}
use Rattle.inode_events.specs.Integrity.{Digests}
use Rattle.inode_events.specs.Verdicts.{fresh_digest, fresh_verdict, verdict_in_force}
use Rattle.inode_events.specs.State.{content}
use Rattle.inode_events.specs.hashes.Digest.{digest_of}
use Rattle.inode_events.specs.hashes.declared.algo.Algo.TheVariants.{Sha1, Sha256}
use Rattle.inode_events.specs.hashes.declared.algo_set.AlgoSet.{AlgoSet}
use Rattle.inode_events.specs.labels.declared.verdict.Cause.TheVariants.{InvalidHash, MissingHash, SignatureRequired}
use Rattle.inode_events.specs.labels.declared.verdict.Verdict.{Verdict}
use Rattle.inode_events.specs.labels.declared.verdict.Verdict.TheVariants.{Deny, Pass}
use Rattle.inode_events.specs.meta.declared.appraisal.Need.{Need}
use Rattle.inode_events.specs.meta.declared.appraisal.Need.TheVariants as need
use Rattle.inode_events.specs.meta.declared.appraisal.Slot.{Slot}
use Rattle.inode_events.specs.meta.declared.appraisal.Slot.TheVariants as slot
use Rattle.run_laws.specs.laws_of_journals.Laws.{AreVerdictsFresh, IsDigestFresh}
use Rattle.worked_examples.specs.Laws.{LawExamples, changed, created, filled, filling, hashed, hashing, hashing_twice}
use Rattle.worked_examples.specs.Shared.{abc, enforced, file_a, xbc}
use Rattle.worked_examples.specs.Unmodified.{hashed_before}

-- ---- freshness

-- the digests in force, of these bytes, begun at this index
abbrev digests_at : List ℕ → ℕ → Digests
digests_at bytes begin =
    record { digest = digest_of Sha256 bytes; sha1 = digest_of Sha1 bytes; begin = begin }

-- the digests in force are those of the content `Xbc`
digest_fresh : IsDigestFresh enforced hashed
digest_fresh f e = subst (λ (g : Digests). (g.digest ≡ fresh_digest enforced hashed)
    × (g.sha1 ≡ digest_of Sha1 (content hashed))) (same_Some (digests_at xbc 7) f e) (refl, refl)

-- a verdict in force is MissingHash, and so is the fresh one
verdicts_at : (s : Slot) (n : Need) (algos : Option AlgoSet) (v : Verdict)
    → verdict_in_force enforced (record { slot = s; need = n; algos = algos }) hashed ≡ Some v
    → v ≡ fresh_verdict enforced n algos hashed
verdicts_at slot.File need.Any None v e = sym (same_Some (Deny MissingHash) v e)
verdicts_at slot.File need.Any (Some set) v e = absurd (none-some v e)
verdicts_at slot.File need.Signature algos v e = absurd (none-some v e)
verdicts_at slot.Mmap n algos v e = absurd (none-some v e)
verdicts_at slot.Bprm n algos v e = absurd (none-some v e)

-- the same for a key as a whole
verdicts_fresh : AreVerdictsFresh enforced hashed
verdicts_fresh k v e = verdicts_at k.slot k.need k.algos v e

-- the digest in force is that of `abc`, and the content is `Xbc`
digest_stale : digest_of Sha256 abc ≢ digest_of Sha256 xbc → IsDigestFresh enforced changed → ⊥
digest_stale differ fresh = differ (fresh (digests_at abc 3) refl).0

sha1_stale : digest_of Sha1 abc ≢ digest_of Sha1 xbc → IsDigestFresh enforced changed → ⊥
sha1_stale differ fresh = differ (fresh (digests_at abc 3) refl).1

-- a verdict that passes isn't one that denies
verdicts_apart : Pass ≡ Deny SignatureRequired → ⊥
verdicts_apart e = cc

-- the verdict in force passes, and the fresh one denies
verdicts_stale : AreVerdictsFresh created filled → ⊥
verdicts_stale fresh = verdicts_apart
    (fresh (record { slot = slot.File; need = need.Signature; algos = None }) Pass refl)

-- ---- admission

-- the two causes differ
causes_apart : Some (Deny InvalidHash) ≡ Some (Deny MissingHash) → ⊥
causes_apart e = cc

-- true isn't false
bools_apart : true ≡ false → ⊥
bools_apart e = cc

-- the examples, together
pub examples : LawExamples
examples = record {
  hashed_legal = legal_by enforced hashing refl refl;
  hashed_free = refl;
  digest_fresh = digest_fresh;
  verdict_given = refl;
  verdicts_fresh = verdicts_fresh;
  changed_legal = legal_by enforced hashed_before refl refl;
  digest_stale = digest_stale;
  sha1_stale = sha1_stale;
  filled_legal = legal_by created filling refl refl;
  verdicts_stale = verdicts_stale;
  admitted = (refl, (λ unmodified. refl), (λ unmodified. refl));
  other_verdict = λ admitted. causes_apart (admitted.1 refl);
  denied_yet_admitted = λ admitted. bools_apart admitted.0;
  written_admitted = (
    refl,
    (λ unmodified. absurd (bools_apart (sym unmodified))),
    (λ unmodified. absurd (bools_apart (sym unmodified))),
  );
  twice_legal = legal_by file_a hashing_twice refl refl;
  twice_begun = refl;
  once_voided = refl;
  voided_since = refl;
  too_many = λ few. too_many few;
} where
  too_many : 2 ≤ 1 → ⊥
  too_many few = absurd (omega arith)
