-- What holds of a shown run, at each place of each of its journals.
use Rattle.std.specs.Prelude.{◌≡◌, ℕ, ◌+◌, ◌≤◌, true, false, List, ◌∷◌, Some, slice_get}
use Rattle.hash_algos.specs.Digest.{digest_of}
use Rattle.inode_meta.specs.declared.appraisal.Mode.TheVariants.{Enforce}
use Rattle.inode_meta.specs.declared.step.Who.{Who}
use Rattle.label_values.specs.Labels.{label_of}
use Rattle.label_values.specs.declared.verdict.Cause.{Cause}
use Rattle.label_values.specs.declared.verdict.Verdict.TheVariants.{Deny}
use Rattle.inode_events.specs.Admission.{granted_file}
use Rattle.inode_events.specs.Checks.{last_check}
use Rattle.inode_events.specs.Counts.{takes_begun, times_voided_before_last}
use Rattle.inode_events.specs.Coverage.{IsCovered}
use Rattle.inode_events.specs.Files.{held, holds, is_reader, writers}
use Rattle.inode_events.specs.Inode.{Inode}
use Rattle.inode_events.specs.Integrity.{attributes, label, labelled_with}
use Rattle.inode_events.specs.State.{content, metadata}
use Rattle.inode_events.specs.declared.deed.Deed.{Deed}
use Rattle.inode_events.specs.declared.deed.Deed.TheVariants as deed
use Rattle.inode_events.specs.declared.told.Event.{Event}
use Rattle.inode_events.specs.declared.told.Grant.{Grant}
use Rattle.inode_events.specs.declared.told.Told.{Told}
use Rattle.inode_events.specs.declared.told.Told.TheVariants as told
use Rattle.journal_laws.specs.Laws.{AreVerdictsFresh, IsAdmitted, IsDigestFresh, labelled_close}
use Rattle.call_steps.specs.declared.ending.Ending.{Ending}
use Rattle.call_steps.specs.declared.reply.Reply.{Reply}
use Rattle.call_steps.specs.declared.reply.Reply.TheVariants as reply
use Rattle.run_model.specs.History.{Position}
use Rattle.run_model.specs.Scene.{Scene}
use Rattle.run_model.specs.Served.{Run}
use Rattle.run_model.specs.Shown.{IsShown}
use Rattle.run_laws.specs.shown.Places.{HasForms, Stood}

-- ---- a shown run

-- whenever no writer holds an inode, its digest and its verdicts in force equal those computed
-- again
abbrev pub IsFresh : Scene → Run → Type 0
IsFresh scene run = (inode : Inode) (p : List Event) → Stood scene run inode p → writers p ≡ 0
    → IsDigestFresh inode p × AreVerdictsFresh inode p

-- each read through a read-only file is covered by the measurement list, or by a violation
abbrev pub AreReadsCovered : Scene → Run → Type 0
AreReadsCovered scene run =
    (inode : Inode) (p : List Event) (who : Who) (file from len : ℕ) (t : Told)
    → Stood scene run inode (record { who = who; deed = deed.Read file from len; told = t } ∷ p)
    → holds is_reader (held file p) ≡ true → IsCovered inode run.list file p

-- in mode enforce, each grant that appraises admits an unmodified file exactly if it matches
abbrev pub AreAdmitted : Scene → Run → Type 0
AreAdmitted scene run =
    (inode : Inode) (p : List Event) (who : Who) (d : Deed) (grant : Grant) (file : ℕ)
    → Stood scene run inode (record { who = who; deed = d; told = told.Grant grant } ∷ p)
    → granted_file d ≡ Some file → scene.settings.mode ≡ Enforce
    → (last_check file p).action.appraise ≡ true → IsAdmitted inode p d grant file

-- if the call of a refused file is answered, its reply is a denial with the cause of the verdict
abbrev pub AreDenied : Scene → Run → Type 0
AreDenied scene run =
    (inode : Inode) (p : List Event) (who : Who) (d : Deed) (grant : Grant) (file : ℕ)
    (cause : Cause) (t : Position) (r : Reply)
    → Stood scene run inode (record { who = who; deed = d; told = told.Grant grant } ∷ p)
    → granted_file d ≡ Some file → grant.admitted ≡ false → grant.verdict ≡ Some (Deny cause)
    → slice_get run.positions who.task ≡ Some t → slice_get t.replies who.call ≡ Some r
    → r ≡ reply.Denied cause

-- the label that a close writes holds the digest, by the script's algorithm, of the content at that
-- step; the HMAC is renewed, and no other attribute changes
abbrev pub AreLabelled : Scene → Run → Type 0
AreLabelled scene run = (inode : Inode) (p : List Event) (who : Who) (file : ℕ)
    → Stood scene run inode (labelled_close who file p)
    → (attributes inode (labelled_close who file p) ≡ labelled_with inode
    (digest_of scene.settings.hash (content p)) (metadata p) (attributes inode p))
    × (label inode (labelled_close who file p)
    ≡ Some (label_of (digest_of scene.settings.hash (content p))))

-- takes have begun at most one collection more than there are events before the last take that
-- voided a digest
abbrev pub IsRarelyHashed : Scene → Run → Type 0
IsRarelyHashed scene run = (inode : Inode) (p : List Event) → Stood scene run inode p
    → takes_begun p ≤ times_voided_before_last inode p + 1

pub record IsSound (scene : Scene) (run : Run) : Type 0 where
  pub fresh : IsFresh scene run
  pub covered : AreReadsCovered scene run
  pub admitted : AreAdmitted scene run
  pub denied : AreDenied scene run
  pub labelled : AreLabelled scene run
  pub rarely_hashed : IsRarelyHashed scene run

-- ---- the laws

abbrev pub ShownIsFresh : Type 0
ShownIsFresh = (scene : Scene) (ending : Ending) (run : Run) → IsShown scene ending run
    → IsFresh scene run

abbrev pub ShownIsCovered : Type 0
ShownIsCovered = (scene : Scene) (ending : Ending) (run : Run) → IsShown scene ending run
    → HasForms scene → AreReadsCovered scene run

abbrev pub ShownIsAdmitted : Type 0
ShownIsAdmitted = (scene : Scene) (ending : Ending) (run : Run) → IsShown scene ending run
    → AreAdmitted scene run

abbrev pub ShownIsDenied : Type 0
ShownIsDenied = (scene : Scene) (ending : Ending) (run : Run) → IsShown scene ending run
    → AreDenied scene run

abbrev pub ShownIsLabelled : Type 0
ShownIsLabelled = (scene : Scene) (ending : Ending) (run : Run) → IsShown scene ending run
    → AreLabelled scene run

abbrev pub ShownIsRarelyHashed : Type 0
ShownIsRarelyHashed = (scene : Scene) (ending : Ending) (run : Run) → IsShown scene ending run
    → IsRarelyHashed scene run

abbrev pub ShownIsSound : Type 0
ShownIsSound = (scene : Scene) (ending : Ending) (run : Run) → IsShown scene ending run
    → HasForms scene → IsSound scene run
