-- The verdicts in force, compared with the journal's definition.
use Rattle.std.specs.Prelude.{◌≡◌, Bool, true, List, [], ◌∷◌, ◌++◌, Option, Some, None, find, is_some, if◌then◌else◌}
use Rattle.std.specs.Option.{option_map}
use Rattle.inode_events.specs.Inode.{Inode}
use Rattle.inode_events.specs.Verdicts as journal
use Rattle.inode_events.specs.declared.deed.Deed.{Deed}
use Rattle.inode_events.specs.declared.deed.Deed.TheVariants as deed
use Rattle.inode_events.specs.declared.told.Event.{Event}
use Rattle.inode_events.specs.declared.told.Told.{Told}
use Rattle.inode_events.specs.declared.told.Told.TheVariants as told
use Rattle.inode_events.specs.labels.declared.verdict.Verdict.{Verdict}
use Rattle.inode_state.specs.declared.collecting.Asked.{Asked}
use Rattle.inode_state.specs.declared.keys.Key.{Key}
use Rattle.inode_state.specs.declared.verdicts.KeyedVerdict.{KeyedVerdict}

abbrev pub key_seen : Key → journal.Key
key_seen k = record { slot = k.slot; need = k.need; algos = k.algos }

abbrev pub key_asked : Asked → journal.Key
key_asked a = record { slot = a.slot; need = a.action.need; algos = a.action.algos }

-- the verdict that is kept under the key
abbrev pub found : journal.Key → List KeyedVerdict → Option Verdict
found k kept = option_map (λ x. x.verdict) (find (λ x. journal.same_key k (key_seen x.key)) kept)

abbrev pub AreVerdicts : Inode → List Event → List KeyedVerdict → Type 0
AreVerdicts inode p kept = (k : journal.Key) → journal.verdict_in_force inode k p ≡ found k kept

-- ---- after one more event

abbrev pub voids_all : Deed → Told → Bool → Bool
voids_all (deed.SetMeta change) told.Done voids = true
voids_all d t voids = voids

-- the verdicts with one added, unless there is one under its key
abbrev pub kept_with : Key → Option Verdict → List KeyedVerdict → List KeyedVerdict
kept_with key None kept = kept
kept_with key (Some verdict) kept = if is_some (found (key_seen key) kept) then kept else kept ++
    record { key = key; verdict = verdict } ∷ []

abbrev pub key_for : Asked → Key
key_for a = record { slot = a.slot; need = a.action.need; algos = a.action.algos }

abbrev pub given_under : Option Asked → Option Verdict → List KeyedVerdict → List KeyedVerdict
given_under None verdict kept = kept
given_under (Some a) verdict kept = kept_with (key_for a) verdict kept

abbrev pub verdicts_next : Deed → Told → Option Asked → List KeyedVerdict → List KeyedVerdict
verdicts_next (deed.Take file) (told.Grant grant) asked kept = given_under asked grant.verdict kept
verdicts_next (deed.Finish file) (told.Grant grant) asked kept = given_under asked grant.verdict
    kept
verdicts_next _ _ asked kept = kept

abbrev pub verdicts_after : Deed → Told → Bool → Option Asked → List KeyedVerdict
    → List KeyedVerdict
verdicts_after d t voids asked kept = if voids_all d t voids then [] else verdicts_next d t asked
    kept
