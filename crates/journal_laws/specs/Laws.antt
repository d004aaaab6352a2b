-- The laws of journals, each for every legal journal. The part of a legal journal before an event
-- is legal too, so a law holds at each place in a journal.
use Rattle.std.specs.Prelude.{◌≡◌, ℕ, ◌+◌, ◌≤◌, true, All, List, ◌∷◌, Some}
use Rattle.hash_algos.specs.Digest.{digest_of}
use Rattle.hash_algos.specs.declared.algo.Algo.TheVariants.{Sha1}
use Rattle.inode_meta.specs.declared.appraisal.Mode.TheVariants.{Enforce}
use Rattle.inode_meta.specs.declared.measurement.Template.TheVariants.{Ima}
use Rattle.inode_meta.specs.declared.step.Who.{Who}
use Rattle.label_values.specs.Labels.{label_of}
use Rattle.label_values.specs.declared.verdict.Verdict.{Verdict}
use Rattle.inode_events.specs.Admission.{fits, granted_file, granted_unmodified}
use Rattle.inode_events.specs.Checks.{last_check}
use Rattle.inode_events.specs.Counts.{takes_begun, times_voided_before_last}
use Rattle.inode_events.specs.Coverage.{IsCovered}
use Rattle.inode_events.specs.Files.{held, holds, is_reader, writers}
use Rattle.inode_events.specs.Listing.{IsListed}
use Rattle.ima_templates.specs.IsEntry.{IsEntry}
use Rattle.ima_templates.specs.Path.{IsMeasuredPath}
use Rattle.ima_templates.specs.declared.entry.Entry.{Entry}
use Rattle.inode_events.specs.declared.told.Told.{Told}
use Rattle.inode_events.specs.Inode.{Inode}
use Rattle.inode_events.specs.Integrity.{Digests, attributes, in_force, label, labelled_with}
use Rattle.inode_events.specs.Legal.{Legal}
use Rattle.inode_events.specs.Marks.{is_passed}
use Rattle.inode_events.specs.State.{content, metadata}
use Rattle.inode_events.specs.Verdicts.{Key, fresh_digest, fresh_verdict, verdict_in_force}
use Rattle.inode_events.specs.declared.deed.Deed.{Deed}
use Rattle.inode_events.specs.declared.deed.Deed.TheVariants as deed
use Rattle.inode_events.specs.declared.told.Event.{Event}
use Rattle.inode_events.specs.declared.told.Grant.{Grant}
use Rattle.inode_events.specs.declared.told.Told.TheVariants as told

-- ---- digests and verdicts

-- the digest in force is the content's, by the algorithm that the label names and by SHA-1
abbrev pub IsDigestFresh : Inode → List Event → Type 0
IsDigestFresh i p = (f : Digests) → in_force i p ≡ Some f → (f.digest ≡ fresh_digest i p)
    × (f.sha1 ≡ digest_of Sha1 (content p))

-- each verdict in force is the one over the present attributes, metadata and content
abbrev pub AreVerdictsFresh : Inode → List Event → Type 0
AreVerdictsFresh i p =
    (k : Key) (v : Verdict) → verdict_in_force i k p ≡ Some v → v ≡ fresh_verdict i k.need k.algos p

-- Freshness: whenever no writer holds the inode, its digest and verdicts in force equal those
-- computed afresh.
abbrev pub Freshness : Type 0
Freshness = (i : Inode) (p : List Event) → Legal i p → writers p ≡ 0 → IsDigestFresh i p
    × AreVerdictsFresh i p

-- a grant in mode enforce admits exactly on Pass; for an unmodified file it gives the verdict
-- computed afresh, and admits exactly if the file fits
abbrev pub IsAdmitted : Inode → List Event → Deed → Grant → ℕ → Type 0
IsAdmitted i p d grant file =
    (grant.admitted ≡ is_passed grant.verdict)
    × (granted_unmodified i d p ≡ true
    → grant.verdict ≡ Some
    (fresh_verdict i (last_check file p).action.need (last_check file p).action.algos p))
    × (granted_unmodified i d p ≡ true → grant.admitted ≡ fits i (last_check file p).action p)

-- Admission: enforcing appraisal admits an unmodified file exactly if digest and HMAC fit.
abbrev pub Admission : Type 0
Admission = (i : Inode) (p : List Event) (who : Who) (d : Deed) (grant : Grant) (file : ℕ)
    → Legal i (record { who = who; deed = d; told = told.Grant grant } ∷ p)
    → granted_file d ≡ Some file
    → i.settings.mode ≡ Enforce → (last_check file p).action.appraise ≡ true
    → IsAdmitted i p d grant file

-- the journal with the event of a close that wrote the label
abbrev pub labelled_close : Who → ℕ → List Event → List Event
labelled_close who file p =
    record { who = who; deed = deed.CloseFinish file; told = told.LabelledDropped } ∷ p

-- The label of a close is that of the content's digest at that step, by the script's default
-- algorithm; the HMAC is renewed, and no other attribute changes.
abbrev pub CloseLabel : Type 0
CloseLabel =
    (i : Inode) (p : List Event) (who : Who) (file : ℕ) → Legal i (labelled_close who file p)
    → (attributes i (labelled_close who file p) ≡ labelled_with i
    (digest_of i.settings.hash (content p)) (metadata p) (attributes i p))
    × (label i (labelled_close who file p) ≡ Some
    (label_of (digest_of i.settings.hash (content p))))

-- Few collections: takes begin at most one collection more than there are events that voided the
-- digest before the last such take.
abbrev pub FewCollections : Type 0
FewCollections =
    (i : Inode) (p : List Event) → Legal i p → takes_begun p ≤ times_voided_before_last i p + 1

-- Coverage: each read of a read-only file is covered by every list that has the journal's entries.
-- The last two premises are what a cell keeps of its path, and the type of entries keeps of the
-- list.
abbrev pub Coverage : Type 0
Coverage =
    (i : Inode) (list : List Entry) (p : List Event) (who : Who) (file from len : ℕ) (t : Told)
    → Legal i (record { who = who; deed = deed.Read file from len; told = t } ∷ p)
    → holds is_reader (held file p) ≡ true
    → IsListed i list p → IsMeasuredPath Ima i.path → All IsEntry list → IsCovered i list file p
