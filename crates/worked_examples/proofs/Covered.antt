-- The examples of reads that a list covers or doesn't.
use Rattle.std.proofs.Common.{◌≡◌, ℕ, true, false, List, [], ◌∷◌, Some, refl, ap, sym, subst, ◌∙◌, arith, inl, inr}
use Rattle.std.specs.Prelude.{◌≢◌, ◌⊎◌, Contains, slice_get, slice_index}
use Rattle.std.proofs.lemmas.Option.{same_Some}
use Rattle.inode_events.proofs.Deciding.{covered_by, has_none, one_has}
use Rattle.inode_events.specs.Checks.{no_action}
use Rattle.inode_events.specs.Coverage.{IsAnswered, IsCovered, ShowsContent, ShowsViolation}
use Rattle.inode_events.specs.Listing.{violated}
use Rattle.inode_events.specs.declared.deed.Deed.TheVariants as deed
use Rattle.inode_events.specs.declared.deed.How.TheVariants as how
use Rattle.inode_events.specs.declared.told.Event.{Event}
use Rattle.inode_events.specs.declared.told.Told.TheVariants as told
use Rattle.inode_events.specs.hashes.Digest.{digest_of}
use Rattle.inode_events.specs.hashes.declared.digest.Digest.{Digest}
use Rattle.inode_events.specs.policy.declared.rule.Func.TheVariants.{FileCheck}
use Rattle.inode_events.specs.templates.Shown.{shown_name}
use Rattle.inode_events.specs.templates.declared.entry.Entry.{Entry}
use Rattle.inode_events.specs.templates.declared.entry.Placed.TheVariants.{Added}
use Rattle.worked_examples.specs.Covered.{CoveredExamples, entry_b, half_opened, opened, opened_beside, overwritten, with_digest}
use Rattle.worked_examples.specs.Shared.{abc, birth, boot, did, entry, file_a, file_b, granted, measure}

-- ---- covered

-- the grant reports index 1, which has the entry of the content
by_entry : IsCovered file_a (boot ∷ entry ∷ []) 1 opened
by_entry = covered_by file_a (boot ∷ entry ∷ []) 1 opened
    ((1, ((0, omega arith, refl), inl (entry, (refl, refl, refl, refl)))), tt)

-- the writer's check, after the reader's, reported a violation at index 2
by_violation : IsCovered file_a (boot ∷ entry ∷ violated file_a ∷ []) 1 overwritten
by_violation = covered_by file_a (boot ∷ entry ∷ violated file_a ∷ []) 1 overwritten (
  (
    1,
    (
      (0, omega arith, refl),
      inr (2, ((0, omega arith, refl), (violated file_a, (refl, refl, refl)))),
    ),
  ),
  tt,
)

-- the reader's own check reported a violation at index 1
by_violation_at_check : (digest : Digest)
    → IsCovered file_a (boot ∷ violated file_a ∷ record entry { digest = digest } ∷ []) 3
    opened_beside
by_violation_at_check digest =
    covered_by file_a (boot ∷ violated file_a ∷ record entry { digest = digest } ∷ []) 3
    opened_beside (
      (
        2,
        (
          (0, omega arith, refl),
          inr (1, ((0, omega arith, refl), (violated file_a, (refl, refl, refl)))),
        ),
      ),
      tt,
    )

-- ---- not covered

-- the check of the first journal, and the events after it
abbrev check : Event
check = did 0 0 1 (deed.Check 1 FileCheck measure 1) told.Quiet

-- the events after that check, newest first
abbrev later : List Event
later = did 0 0 4 (deed.Finish 1) (granted (Added 1)) ∷ did 0 0 3 (deed.Chunk 1) told.Last
    ∷ did 0 0 2 (deed.Take 1) told.Begun ∷ []

-- the only grant reports index 1, and nothing reports a violation; so the entry at this index shows
-- the content, or the check isn't answered
lone_answer : (list : List Entry) → (ShowsContent file_a list abc 1 → ⊥)
    → IsAnswered file_a list 1 abc later check → ⊥
lone_answer list shows answer = at answer.0 (one_has 1 answer.0 answer.1.0) answer.1.1 where
  at : (place : ℕ) → 1 ≡ place → ShowsContent file_a list abc place
      ⊎ ((violation : ℕ) × (Contains [] violation × ShowsViolation file_a list violation)) → ⊥
  at place e (inl shown) =
      shows (subst (λ (k : ℕ). ShowsContent file_a list abc k) (sym e) shown)
  at place e (inr violation) = has_none violation.0 violation.1.0

-- if the check isn't answered, the read isn't covered
uncovered : (list : List Entry) → (ShowsContent file_a list abc 1 → ⊥)
    → IsCovered file_a list 1 opened → ⊥
uncovered list shows covered = lone_answer list shows
    (covered later check (did 0 0 0 (deed.Count (how.Read false)) told.Held ∷ birth file_a ∷ [])
    refl refl)

-- the entry at index 1 has another digest than the content's
other_digest : (digest : Digest) → digest ≢ digest_of digest.algo abc
    → IsCovered file_a (with_digest digest) 1 opened → ⊥
other_digest digest differs = uncovered (with_digest digest) (λ shown. at shown.0
    (same_Some (record entry { digest = digest }) shown.0 shown.1.0) shown.1.3) where
      at : (e : Entry) → record entry { digest = digest } ≡ e
          → e.digest ≡ digest_of e.digest.algo abc → ⊥
      at e is has = differs
          (subst (λ (x : Entry). x.digest ≡ digest_of x.digest.algo abc) (sym is) has)

-- `/b` isn't `/a`
names_apart : entry_b.name ≡ file_a.path → ⊥
names_apart e = letters 98 refl (ap (λ (bytes : List ℕ). slice_index bytes 1) e) where
  letters : (b : ℕ) → b ≡ 98 → b ≡ 97 → ⊥
  letters b is isnt = absurd (omega arith)

-- the entry at /b doesn't show a content of /a
shows_b : (list : List Entry) (place : ℕ) → slice_get list place ≡ Some entry_b
    → ShowsContent file_a list abc place → ⊥
shows_b list place there shown =
    at shown.0 (same_Some entry_b shown.0 (sym there ∙ shown.1.0)) shown.1.2 where
      at : (e : Entry) → entry_b ≡ e → e.name ≡ shown_name e.template file_a.path → ⊥
      at e is named = names_apart
          (subst (λ (x : Entry). x.name ≡ shown_name x.template file_a.path) (sym is) named)

-- the entry at index 1 is of /b
other_path : IsCovered file_a (boot ∷ entry_b ∷ []) 1 opened → ⊥
other_path = uncovered (boot ∷ entry_b ∷ []) (shows_b (boot ∷ entry_b ∷ []) 1 refl)

-- the check beside a writer, and the events after it
abbrev check_beside : Event
check_beside = did 0 0 1 (deed.Check 3 FileCheck measure 1) (told.OpenWriters 1)

-- the events after that check, newest first
abbrev later_beside : List Event
later_beside = did 0 0 4 (deed.Finish 3) (granted (Added 2)) ∷ did 0 0 3 (deed.Chunk 3) told.Last
    ∷ did 0 0 2 (deed.Take 3) told.Begun ∷ []

-- the events before that check, newest first
abbrev before_beside : List Event
before_beside = did 0 0 0 (deed.Count (how.Read false)) told.Held
    ∷ did 1 0 1 (deed.Check 1 FileCheck no_action 1) told.Quiet
    ∷ did 1 0 0 (deed.Count (how.Write false false)) told.Held ∷ birth file_a ∷ []

-- the grant reports index 2, which has the entry at /b, and the check reports index 1; so there is
-- a violation of the file there, or the read isn't covered
beside_uncovered : (x : Entry) → (ShowsViolation file_a (boot ∷ x ∷ entry_b ∷ []) 1 → ⊥)
    → IsCovered file_a (boot ∷ x ∷ entry_b ∷ []) 3 opened_beside → ⊥
beside_uncovered x shows covered =
    at (covered later_beside check_beside before_beside refl refl) where
      by : (place : ℕ) → 2 ≡ place → ShowsContent file_a (boot ∷ x ∷ entry_b ∷ []) abc place
          ⊎ ((violation : ℕ) × (Contains (1 ∷ []) violation
          × ShowsViolation file_a (boot ∷ x ∷ entry_b ∷ []) violation)) → ⊥
      by place e (inl shown) = shows_b (boot ∷ x ∷ entry_b ∷ []) 2 refl
          (subst (λ (k : ℕ). ShowsContent file_a (boot ∷ x ∷ entry_b ∷ []) abc k) (sym e) shown)
      by place e (inr v) = shows
          (subst (λ (k : ℕ). ShowsViolation file_a (boot ∷ x ∷ entry_b ∷ []) k)
          (sym (one_has 1 v.0 v.1.0)) v.1.1)

      at : IsAnswered file_a (boot ∷ x ∷ entry_b ∷ []) 3 abc later_beside check_beside → ⊥
      at answer = by answer.0 (one_has 2 answer.0 answer.1.0) answer.1.1

-- the violation at index 1 is of /b
other_violation : IsCovered file_a (boot ∷ violated file_b ∷ entry_b ∷ []) 3 opened_beside → ⊥
other_violation = beside_uncovered (violated file_b) (λ shown. at shown.0
    (same_Some (violated file_b) shown.0 shown.1.0) shown.1.2) where
      at : (e : Entry) → violated file_b ≡ e → e.name ≡ shown_name e.template file_a.path → ⊥
      at e is named = names_apart
          (subst (λ (x : Entry). x.name ≡ shown_name x.template file_a.path) (sym is) named)

-- the entry at index 1 is no violation
no_violation : IsCovered file_a (boot ∷ entry ∷ entry_b ∷ []) 3 opened_beside → ⊥
no_violation = beside_uncovered entry (λ shown. at shown.0
    (same_Some entry shown.0 shown.1.0) shown.1.1) where
      apart : false ≡ true → ⊥
      apart e = cc

      at : (e : Entry) → entry ≡ e → e.violation ≡ true → ⊥
      at e is flagged = apart (subst (λ (x : Entry). x.violation ≡ true) (sym is) flagged)

-- no grant of file 1 comes after its check
other_file : IsCovered file_a (boot ∷ entry ∷ []) 1 half_opened → ⊥
other_file covered = at (covered
    (did 1 0 4 (deed.Finish 3) (granted (Added 1)) ∷ did 1 0 3 (deed.Chunk 3) told.Last
    ∷ did 1 0 2 (deed.Take 3) told.Begun
    ∷ did 1 0 1 (deed.Check 3 FileCheck measure 1) told.Quiet
    ∷ did 1 0 0 (deed.Count (how.Read false)) told.Held ∷ []) check
    (did 0 0 0 (deed.Count (how.Read false)) told.Held ∷ birth file_a ∷ []) refl refl) where
      at : IsAnswered file_a (boot ∷ entry ∷ []) 1 abc
          (did 1 0 4 (deed.Finish 3) (granted (Added 1)) ∷ did 1 0 3 (deed.Chunk 3) told.Last
          ∷ did 1 0 2 (deed.Take 3) told.Begun
          ∷ did 1 0 1 (deed.Check 3 FileCheck measure 1) told.Quiet
          ∷ did 1 0 0 (deed.Count (how.Read false)) told.Held ∷ []) check → ⊥
      at answer = has_none answer.0 answer.1.0

-- the examples, together
pub examples : CoveredExamples
examples = record {
  by_entry = by_entry;
  by_violation = by_violation;
  by_violation_at_check = by_violation_at_check;
  other_digest = other_digest;
  other_path = other_path;
  other_violation = other_violation;
  no_violation = no_violation;
  other_file = other_file;
}
