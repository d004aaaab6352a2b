-- The grant of a file in two journals in which the same files have other names.
use Rattle.std.proofs.Common.{◌≡◌, ℕ, Bool, true, ◌&&◌, cond, List, length, Option, Some, None, unwrap_or, refl, ap, ap₂, ◌∙◌}
use Rattle.report_text.specs.model.events.Checks.{Check, appraises, is_fix, last_check}
use Rattle.report_text.specs.model.events.Grants.{admits, grant_of, granted, is_mend, mend_of, mends, placed_if_measured, verdict_for}
use Rattle.report_text.specs.model.events.Inode.{Inode}
use Rattle.report_text.specs.model.events.Integrity.{label, label_in, status}
use Rattle.report_text.specs.model.events.NewestFirst.{newest_first}
use Rattle.report_text.specs.model.events.State.{content, new}
use Rattle.report_text.specs.model.events.Verdicts.{judged, key_of}
use Rattle.report_text.specs.model.events.declared.told.Event.{Event}
use Rattle.report_text.specs.model.events.declared.told.Grant.{Grant}
use Rattle.report_text.specs.model.events.evm.Status.{evm_status}
use Rattle.report_text.specs.model.events.hashes.declared.algo_set.AlgoSet.{AlgoSet}
use Rattle.report_text.specs.model.events.hashes.declared.digest.Digest.{Digest}
use Rattle.report_text.specs.model.events.labels.Labels.{read_label}
use Rattle.report_text.specs.model.events.labels.Verdicts.{judge, mend_for}
use Rattle.report_text.specs.model.events.labels.declared.verdict.Mend.{Mend}
use Rattle.report_text.specs.model.events.labels.declared.verdict.Verdict.{Verdict}
use Rattle.report_text.specs.model.events.meta.declared.appraisal.EvmStatus.TheVariants as evm
use Rattle.report_text.specs.model.events.meta.declared.appraisal.Need.{Need}
use Rattle.report_text.specs.model.events.meta.declared.identity.Meta.{Meta}
use Rattle.report_text.specs.model.events.policy.declared.access.Action.{Action}
use Rattle.report_text.specs.model.events.templates.declared.entry.Entry.{Entry}
use Rattle.report_text.specs.model.events.templates.declared.entry.Placed.{Placed}
use Rattle.report_text.specs.model.events.templates.xattrs.Attrs.{Pair}
use Rattle.order_outcomes.specs.alike.Alike.{IsInodeAlike}

-- a grant from its parts
abbrev grant_with : Inode → Check → Placed → Option Verdict → Bool → Grant
grant_with inode check placed verdict labelled = record {
  placed = placed_if_measured check.action placed;
  verdict = verdict;
  admitted = admits inode.settings.mode verdict;
  labelled = labelled;
}

module _ (inode : Inode) (list list2 : List Entry) (used : ℕ → Bool) (r : ℕ → ℕ) (j j2 : List Event)
    (s : IsInodeAlike inode list list2 used r j j2) where
  -- a digest is judged alike
  judged_same : (need : Need) (algos : Option AlgoSet) (digest : Digest)
      → judged inode need algos digest (newest_first j2)
      ≡ judged inode need algos digest (newest_first j)
  judged_same need algos digest =
      ap₂ (λ (a : List Pair) (m : Meta). judge need algos (label_in a)
      (evm_status inode.settings.evm a m) digest inode.settings.hash
      (length (content (newest_first j2))) (new (newest_first j2))) s.attributes_in s.metadata_in
      ∙ ap₂ (λ (c : List ℕ) (n : Bool). judge need algos (label inode (newest_first j))
      (status inode (newest_first j)) digest inode.settings.hash (length c) n) s.content_in s.new_in

  -- its verdict is the one in force or the same fresh one
  verdict_same : (check : Check) (digest : Digest)
      → verdict_for inode check digest (newest_first j2)
      ≡ verdict_for inode check digest (newest_first j)
  verdict_same check digest =
      ap₂ (λ (v : Option Verdict) (fresh : Verdict). cond (appraises inode check.action)
      (Some (unwrap_or v fresh)) None) (s.verdicts (key_of check))
      (judged_same check.action.need check.action.algos digest)

  -- fix mode writes the same attributes
  mend_same : (action : Action) (digest : Digest) (verdict : Verdict)
      → mend_of inode action digest verdict (newest_first j2)
      ≡ mend_of inode action digest verdict (newest_first j)
  mend_same action digest verdict =
      ap₂ (λ (a : List Pair) (m : Meta). mend_for verdict (judge action.need action.algos
      (label_in a) evm.Pass digest inode.settings.hash (length (content (newest_first j2)))
      (new (newest_first j2))) (evm_status inode.settings.evm a m)
      (read_label (label_in a) inode.settings.hash)) s.attributes_in s.metadata_in
      ∙ ap₂ (λ (c : List ℕ) (n : Bool). mend_for verdict (judge action.need action.algos
      (label inode (newest_first j)) evm.Pass digest inode.settings.hash (length c) n)
      (status inode (newest_first j))
      (read_label (label inode (newest_first j)) inode.settings.hash)) s.content_in s.new_in

  -- if it writes any
  mends_same : (action : Action) (digest : Digest) (verdict : Option Verdict)
      → mends inode action digest verdict (newest_first j2)
      ≡ mends inode action digest verdict (newest_first j)
  mends_same action digest None = refl
  mends_same action digest (Some verdict) =
      ap (λ (m : Mend). is_fix inode.settings.mode && is_mend m) (mend_same action digest verdict)

  -- the grant for a check
  granted_same : (check : Check) (placed : Placed) (digest : Digest)
      → granted inode check placed digest (verdict_for inode check digest (newest_first j2))
      (newest_first j2)
      ≡ granted inode check placed digest (verdict_for inode check digest (newest_first j))
      (newest_first j)
  granted_same check placed digest =
      ap (λ (v : Option Verdict). granted inode check placed digest v (newest_first j2))
      (verdict_same check digest)
      ∙ ap (λ (b : Bool). grant_with inode check placed
      (verdict_for inode check digest (newest_first j)) b)
      (mends_same check.action digest (verdict_for inode check digest (newest_first j)))

  -- the grant of a file
  pub grant_same : (file : ℕ) → used file ≡ true → (placed : Placed) (digest : Digest)
      → grant_of inode (r file) placed digest (newest_first j2)
      ≡ grant_of inode file placed digest (newest_first j)
  grant_same file u placed digest =
      ap (λ (c : Check). granted inode c placed digest
      (verdict_for inode c digest (newest_first j2)) (newest_first j2)) (s.checks file u)
      ∙ granted_same (last_check file (newest_first j)) placed digest
