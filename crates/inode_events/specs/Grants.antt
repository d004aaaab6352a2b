-- The outcome of a take or finish after which a digest is in force.
use Rattle.std.specs.Prelude.{ℕ, Bool, true, false, ◌&&◌, List, Option, Some, None, unwrap_or, if◌then◌else◌}
use Rattle.hash_algos.specs.declared.digest.Digest.{Digest}
use Rattle.ima_templates.specs.declared.entry.Placed.{Placed}
use Rattle.inode_meta.specs.declared.appraisal.EvmStatus.TheVariants as evm
use Rattle.inode_meta.specs.declared.appraisal.Mode.{Mode}
use Rattle.inode_meta.specs.declared.appraisal.Mode.TheVariants as mode
use Rattle.label_values.specs.Labels.{read_label}
use Rattle.label_values.specs.Verdicts.{is_pass, judge, mend_for}
use Rattle.label_values.specs.declared.verdict.Mend.{Mend}
use Rattle.label_values.specs.declared.verdict.Mend.TheVariants as mend
use Rattle.label_values.specs.declared.verdict.Verdict.{Verdict}
use Rattle.policy_rules.specs.declared.access.Action.{Action}
use Rattle.inode_events.specs.Checks.{Check, appraises, is_fix, last_check}
use Rattle.inode_events.specs.Inode.{Inode}
use Rattle.inode_events.specs.Integrity.{label, status}
use Rattle.inode_events.specs.State.{content, new}
use Rattle.inode_events.specs.Verdicts.{judged, key_of, verdict_in_force}
use Rattle.inode_events.specs.declared.told.Event.{Event}
use Rattle.inode_events.specs.declared.told.Grant.{Grant}
use Rattle.std.specs.Prelude.{length}

-- the outcome of adding the entry, if the action measures
abbrev pub placed_if_measured : Action → Placed → Option Placed
placed_if_measured action placed = if action.measure then Some placed else None

-- the verdict, if the file is appraised: the one in force, or else one computed from the digest and
-- the present state
abbrev pub verdict_for : Inode → Check → Digest → List Event → Option Verdict
verdict_for inode check digest before =
    if appraises inode check.action then
    Some (unwrap_or (verdict_in_force inode (key_of check) before)
    (judged inode check.action.need check.action.algos digest before))
    else None

-- enforce mode admits a file exactly on Pass, the other modes always
abbrev pub admits : Mode → Option Verdict → Bool
admits mode.Enforce (Some verdict) = is_pass verdict
admits _ _ = true

abbrev pub is_mend : Mend → Bool
is_mend mend.Nothing = false
is_mend _ = true

-- the attributes that fix mode writes on the verdict
abbrev pub mend_of : Inode → Action → Digest → Verdict → List Event → Mend
mend_of inode action digest verdict before =
    mend_for verdict
    (judge action.need action.algos (label inode before) evm.Pass digest inode.settings.hash
    (length (content before)) (new before))
    (status inode before) (read_label (label inode before) inode.settings.hash)

-- fix mode writes something on the verdict: the label and the HMAC, or the HMAC only
abbrev pub mends : Inode → Action → Digest → Option Verdict → List Event → Bool
mends inode action digest None before = false
mends inode action digest (Some verdict) before =
    is_fix inode.settings.mode && is_mend (mend_of inode action digest verdict before)

abbrev pub granted : Inode → Check → Placed → Digest → Option Verdict → List Event → Grant
granted inode check placed digest verdict before = record {
  placed = placed_if_measured check.action placed;
  verdict = verdict;
  admitted = admits inode.settings.mode verdict;
  labelled = mends inode check.action digest verdict before;
}

-- the grant of the file, based on a digest
abbrev pub grant_of : Inode → ℕ → Placed → Digest → List Event → Grant
grant_of inode file placed digest before =
    granted inode (last_check file before) placed digest
    (verdict_for inode (last_check file before) digest before) before
