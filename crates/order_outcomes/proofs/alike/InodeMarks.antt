-- The marks of an inode and its verdicts in force after one more event, in two journals in which
-- the same files have other names.
use Rattle.std.proofs.Common.{◌≡◌, ℕ, Bool, true, false, ◌&&◌, ◌||◌, not, cond, List, Option, None, refl, ap, ap₂}
use Rattle.std.specs.Option.{option_or}
use Rattle.report_text.specs.model.events.Checks.{Check}
use Rattle.report_text.specs.model.events.Files.{holds, is_writer, is_writing}
use Rattle.report_text.specs.model.events.Inode.{Inode}
use Rattle.report_text.specs.model.events.Integrity.{in_force}
use Rattle.report_text.specs.model.events.Marks.{is_passed, must_measure, must_measure_after, update, update_after}
use Rattle.report_text.specs.model.events.NewestFirst.{newest_first}
use Rattle.report_text.specs.model.events.Verdicts.{Key, key_of, same_key, verdict_given, verdict_in_force, verdict_kept, voids_verdicts}
use Rattle.report_text.specs.model.events.declared.deed.Deed.{Deed}
use Rattle.report_text.specs.model.events.declared.deed.Deed.TheVariants as deed
use Rattle.report_text.specs.model.events.declared.deed.How.{How}
use Rattle.report_text.specs.model.events.declared.told.Event.{Event}
use Rattle.report_text.specs.model.events.declared.told.Told.{Told}
use Rattle.report_text.specs.model.events.declared.told.Told.TheVariants as told
use Rattle.report_text.specs.model.events.labels.declared.verdict.Verdict.{Verdict}
use Rattle.report_text.specs.model.events.templates.declared.entry.Entry.{Entry}
use Rattle.order_outcomes.proofs.alike.InodeIntegrity.{voids_same}
use Rattle.order_outcomes.proofs.alike.InodeLaws.{IsUsed, deed_named, file_in}
use Rattle.order_outcomes.proofs.alike.InodeState.{last_drop_same}
use Rattle.order_outcomes.specs.alike.Alike.{IsInodeAlike}

module _ (inode : Inode) (list list2 : List Entry) (used : ℕ → Bool) (r : ℕ → ℕ) (j j2 : List Event)
    (s : IsInodeAlike inode list list2 used r j j2) where
  -- the file is open for writing in both
  pub writing_same : (file : ℕ) → used file ≡ true
      → is_writing (r file) (newest_first j2) ≡ is_writing file (newest_first j)
  writing_same file u = ap (λ (o : Option How). holds is_writer o) (s.how file u)

  -- the mark of a measured file
  pub must_measure_grown : (d : Deed) (t : Told) → IsUsed used (file_in d)
      → must_measure_after (deed_named r d) t (newest_first j2) (must_measure (newest_first j2))
      ≡ must_measure_after d t (newest_first j) (must_measure (newest_first j))
  must_measure_grown (deed.Check file func action rules) told.Quiet u =
      ap₂ (λ (old w : Bool). old || (action.measure && not w)) s.must_measure_in
      (writing_same file u)
  must_measure_grown (deed.Check file func action rules) (told.OpenWriters place) u =
      ap₂ (λ (old w : Bool). old || (action.measure && not w)) s.must_measure_in
      (writing_same file u)
  must_measure_grown (deed.Check file func action rules) (told.ToMToU place) u = refl
  must_measure_grown d t u = s.must_measure_in

  -- the mark of a writer whose label must be updated
  pub update_grown : (d : Deed) (t : Told) → IsUsed used (file_in d)
      → update_after (deed_named r d) t (newest_first j2) (update (newest_first j2))
      ≡ update_after d t (newest_first j) (update (newest_first j))
  update_grown (deed.Take file) (told.Grant grant) u =
      ap₂ (λ (old w : Bool). old || (w && (is_passed grant.verdict || grant.labelled)))
      s.update_in (writing_same file u)
  update_grown (deed.Finish file) (told.Grant grant) u =
      ap₂ (λ (old w : Bool). old || (w && (is_passed grant.verdict || grant.labelled)))
      s.update_in (writing_same file u)
  update_grown d t u =
      ap₂ (λ (b old : Bool). cond b false old)
      (last_drop_same r (newest_first j) (newest_first j2) s.writers_in d t) s.update_in

  -- ---- verdicts

  -- the event voids the verdicts of both
  voids_verdicts_same : (d : Deed) (t : Told)
      → voids_verdicts (deed_named r d) t (newest_first j2) (in_force inode (newest_first j2))
      ≡ voids_verdicts d t (newest_first j) (in_force inode (newest_first j))
  voids_verdicts_same (deed.SetMeta change) told.Done = refl
  voids_verdicts_same d t = voids_same inode list list2 used r j j2 s d t

  -- a grant's verdict is kept under the same key
  kept_verdict : (key : Key) (file : ℕ) (verdict : Option Verdict) → used file ≡ true
      → verdict_kept key (r file) verdict (newest_first j2)
      (verdict_in_force inode key (newest_first j2))
      ≡ verdict_kept key file verdict (newest_first j) (verdict_in_force inode key (newest_first j))
  kept_verdict key file verdict u =
      ap₂ (λ (c : Check) (old : Option Verdict). cond (same_key key (key_of c))
      (option_or verdict old) old) (s.checks file u) (s.verdicts key)

  -- the event gives the same verdict under the key
  given_verdict : (key : Key) (d : Deed) (t : Told) → IsUsed used (file_in d)
      → verdict_given key (deed_named r d) t (newest_first j2)
      (verdict_in_force inode key (newest_first j2))
      ≡ verdict_given key d t (newest_first j) (verdict_in_force inode key (newest_first j))
  given_verdict key (deed.Take file) (told.Grant grant) u = kept_verdict key file grant.verdict u
  given_verdict key (deed.Finish file) (told.Grant grant) u = kept_verdict key file grant.verdict u
  given_verdict key d t u = s.verdicts key

  -- the verdict in force after it
  pub verdicts_grown : (key : Key) (d : Deed) (t : Told) → IsUsed used (file_in d)
      → cond (voids_verdicts (deed_named r d) t (newest_first j2)
      (in_force inode (newest_first j2))) None
      (verdict_given key (deed_named r d) t (newest_first j2)
      (verdict_in_force inode key (newest_first j2)))
      ≡ cond (voids_verdicts d t (newest_first j) (in_force inode (newest_first j))) None
      (verdict_given key d t (newest_first j) (verdict_in_force inode key (newest_first j)))
  verdicts_grown key d t u =
      ap₂ (λ (b : Bool) (v : Option Verdict). cond b None v) (voids_verdicts_same d t)
      (given_verdict key d t u)
