-- The marks of an inode: that a measured file was opened, and that a writer's label must be updated
-- after its writes.
use Rattle.std.specs.Prelude.{ℕ, Bool, false, ◌&&◌, ◌||◌, not, List, [], ◌∷◌, Option, Some, None, if◌then◌else◌}
use Rattle.label_values.specs.Labels.{read_label}
use Rattle.label_values.specs.Verdicts.{is_pass, is_signature}
use Rattle.label_values.specs.declared.verdict.Verdict.{Verdict}
use Rattle.inode_events.specs.Files.{is_writing}
use Rattle.inode_events.specs.Inode.{Inode}
use Rattle.inode_events.specs.Integrity.{label}
use Rattle.inode_events.specs.State.{is_last_drop, modified_in, new, span, versions}
use Rattle.inode_events.specs.declared.deed.Deed.{Deed}
use Rattle.inode_events.specs.declared.deed.Deed.TheVariants as deed
use Rattle.inode_events.specs.declared.told.Event.{Event}
use Rattle.inode_events.specs.declared.told.Grant.{Grant}
use Rattle.inode_events.specs.declared.told.Told.{Told}
use Rattle.inode_events.specs.declared.told.Told.TheVariants as told

-- ---- must-measure (the kernel's IMA_MUST_MEASURE)

abbrev pub must_measure_after : Deed → Told → List Event → Bool → Bool
must_measure_after (deed.Check file func action rules) told.Quiet before old =
    old || (action.measure && not (is_writing file before))
must_measure_after (deed.Check file func action rules) (told.OpenWriters place) before old =
    old || (action.measure && not (is_writing file before))
must_measure_after (deed.Check file func action rules) (told.ToMToU place) before old = false
must_measure_after _ _ before old = old

-- a file that isn't open for writing was checked and its action measures, and since then there was
-- no ToMToU. The reader that set the mark may have closed the file.
abbrev pub must_measure : List Event → Bool
must_measure [] = false
must_measure (e ∷ before) = must_measure_after e.deed e.told before (must_measure before)

-- ---- update (the kernel's IMA_UPDATE_XATTR)

abbrev pub is_passed : Option Verdict → Bool
is_passed None = false
is_passed (Some verdict) = is_pass verdict

abbrev pub earns_update : ℕ → Grant → List Event → Bool
earns_update file grant before =
    is_writing file before && (is_passed grant.verdict || grant.labelled)

abbrev pub update_after : Deed → Told → List Event → Bool → Bool
update_after (deed.Take file) (told.Grant grant) before old =
    old || earns_update file grant before
update_after (deed.Finish file) (told.Grant grant) before old =
    old || earns_update file grant before
update_after d t before old = if is_last_drop d t before then false else old

-- a writer's grant passed or wrote the label, and since then no last writer was dropped
abbrev pub update : List Event → Bool
update [] = false
update (e ∷ before) = update_after e.deed e.told before (update before)

-- ---- labels at a close

-- the close of the last writer must write a label. The span says whether the content was modified:
-- the kernel compares with the version that it recorded at the last collection.
abbrev pub is_label_due : Inode → List Event → Bool
is_label_due inode before =
    update before && not (is_signature (read_label (label inode before) inode.settings.hash))
    && (new before || not (versions before) || modified_in (span before))
