-- The entries of the measurement list that the events of an inode add or find.
use Rattle.std.specs.Prelude.{◌≡◌, ℕ, ◌==◌, ◌||◌, List, [], ◌∷◌, ◌++◌, Option, Some, None, option_map, slice_get, unwrap_or, if◌then◌else◌}
use Rattle.ima_templates.specs.Entries.{entry_of, violation_of}
use Rattle.ima_templates.specs.Same.{place_of_same}
use Rattle.ima_templates.specs.declared.entry.Entry.{Entry}
use Rattle.ima_templates.specs.declared.entry.Placed.{Placed}
use Rattle.ima_templates.specs.declared.entry.Placed.TheVariants.{Added, Already}
use Rattle.inode_meta.specs.declared.measurement.Template.{Template}
use Rattle.inode_meta.specs.declared.step.Who.{Who}
use Rattle.label_values.specs.Labels.{type_of}
use Rattle.policy_rules.specs.declared.access.Action.{Action}
use Rattle.inode_events.specs.Checks.{last_check}
use Rattle.inode_events.specs.Inode.{Inode}
use Rattle.inode_events.specs.Integrity.{Digests, collecting, in_force, digests_of, label}
use Rattle.inode_events.specs.declared.deed.Deed.{Deed}
use Rattle.inode_events.specs.declared.deed.Deed.TheVariants as deed
use Rattle.inode_events.specs.declared.told.Event.{Event}
use Rattle.inode_events.specs.declared.told.Told.{Told}
use Rattle.inode_events.specs.declared.told.Told.TheVariants as told

-- ---- the entries

-- the template of a measurement: the one that the rule names, or else the script's
abbrev pub template_for : Inode → Action → Template
template_for inode action = unwrap_or action.template inode.settings.template

-- the signature in the label (types 3 and 6), as the field `sig` shows it
abbrev pub signature_in : Option (List ℕ) → List ℕ
signature_in None = []
signature_in (Some bytes) = if type_of bytes == 3 || type_of bytes == 6 then bytes else []

-- the entry that measures a file, with these digests and the present label
abbrev pub measured : Inode → ℕ → Digests → List Event → Entry
measured inode file digests before =
    entry_of (last_check file before).action.pcr
    (template_for inode (last_check file before).action)
    digests.digest digests.sha1 inode.path (signature_in (label inode before))

-- a violation of the inode, under the script's template and algorithm whatever the rule says
abbrev pub violated : Inode → Entry
violated inode = violation_of inode.settings.template inode.settings.hash inode.path

-- ---- the entries that one event adds or finds

-- an entry with its index, as an event's outcome reports it
abbrev pub Listed : Type 0
Listed = ℕ × Entry

-- the digests on which the grant of a take or finish is based
abbrev pub granting : Inode → Deed → List Event → Option Digests
granting inode (deed.Take file) before = in_force inode before
granting inode (deed.Finish file) before = option_map digests_of (collecting inode before)
granting inode _ before = None

abbrev pub added_at : Option Placed → Option Digests → Inode → ℕ → List Event → Option Listed
added_at (Some (Added place)) (Some digests) inode file before =
    Some (place, measured inode file digests before)
added_at _ _ inode file before = None

abbrev pub found_at : Option Placed → Option Digests → Inode → ℕ → List Event → Option Listed
found_at (Some (Already place)) (Some digests) inode file before =
    Some (place, measured inode file digests before)
found_at _ _ inode file before = None

-- the entry that the event adds to the list, if any
abbrev pub adds : Inode → Deed → Told → List Event → Option Listed
adds inode (deed.Check file func action rules) (told.OpenWriters place) before =
    Some (place, violated inode)
adds inode (deed.Check file func action rules) (told.ToMToU place) before =
    Some (place, violated inode)
adds inode (deed.Take file) (told.Grant grant) before =
    added_at grant.placed (granting inode (deed.Take file) before) inode file before
adds inode (deed.Finish file) (told.Grant grant) before =
    added_at grant.placed (granting inode (deed.Finish file) before) inode file before
adds inode _ _ before = None

-- the entry that the event finds in the list, if any
abbrev pub finds : Inode → Deed → Told → List Event → Option Listed
finds inode (deed.Take file) (told.Grant grant) before =
    found_at grant.placed (granting inode (deed.Take file) before) inode file before
finds inode (deed.Finish file) (told.Grant grant) before =
    found_at grant.placed (granting inode (deed.Finish file) before) inode file before
finds inode _ _ before = None

-- ---- everything that a journal implies for the list

-- one event's effect on the list: the step that made it, the entry that it adds, and the one that
-- it finds
pub record Mention : Type 0 where
  pub who : Who
  pub added : Option Listed
  pub found : Option Listed

-- the effect of each event on the list, newest first; the definitions below depend on the journal
-- through this alone
abbrev pub mentions : Inode → List Event → List Mention
mentions inode [] = []
mentions inode (e ∷ before) =
    record {
      who = e.who;
      added = adds inode e.deed e.told before;
      found = finds inode e.deed e.told before;
    }
    ∷ mentions inode before

abbrev pub listed_in : Option Listed → List Listed
listed_in None = []
listed_in (Some listed) = listed ∷ []

abbrev pub added_in : List Mention → List Listed
added_in [] = []
added_in (m ∷ earlier) = added_in earlier ++ listed_in m.added

-- the entries that the journal adds, oldest first, each with its index
abbrev pub entries_added : Inode → List Event → List Listed
entries_added inode events = added_in (mentions inode events)

-- the list has the added entry at its index
abbrev pub StandsIn : List Entry → Option Listed → Type 0
StandsIn list None = Unit {0}
StandsIn list (Some added) = slice_get list added.0 ≡ Some added.1

-- the found entry is in the list, first at its index
abbrev pub IsFirstIn : List Entry → Option Listed → Type 0
IsFirstIn list None = Unit {0}
IsFirstIn list (Some found) = place_of_same list found.1 ≡ Some found.0

abbrev pub AreIn : List Entry → List Mention → Type 0
AreIn list [] = Unit {0}
AreIn list (m ∷ earlier) = StandsIn list m.added × IsFirstIn list m.found × AreIn list earlier

-- the list has the entries that the events of the journal added and found
abbrev pub IsListed : Inode → List Entry → List Event → Type 0
IsListed inode list events = AreIn list (mentions inode events)
