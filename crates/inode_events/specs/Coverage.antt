-- The condition under which the measurement list covers a read.
use Rattle.std.specs.Prelude.{◌≡◌, ◌⊎◌, ℕ, ◌==◌, Bool, true, false, ◌&&◌, List, [], ◌∷◌, ◌++◌, Contains, Option, Some, None, slice_get, if◌then◌else◌}
use Rattle.hash_algos.specs.Digest.{digest_of}
use Rattle.ima_templates.specs.Shown.{shown_name}
use Rattle.ima_templates.specs.declared.entry.Entry.{Entry}
use Rattle.ima_templates.specs.declared.entry.Placed.{Placed}
use Rattle.inode_events.specs.Inode.{Inode}
use Rattle.inode_events.specs.Says.{place_of}
use Rattle.inode_events.specs.State.{content}
use Rattle.inode_events.specs.declared.deed.Deed.{Deed}
use Rattle.inode_events.specs.declared.deed.Deed.TheVariants as deed
use Rattle.inode_events.specs.declared.told.Event.{Event}
use Rattle.inode_events.specs.declared.told.Told.{Told}
use Rattle.inode_events.specs.declared.told.Told.TheVariants as told

-- the event is a check of the file, and its action measures
abbrev pub is_measuring : ℕ → Deed → Bool
is_measuring file (deed.Check other func action rules) = (other == file) && action.measure
is_measuring file _ = false

abbrev pub place_in : Option Placed → List ℕ
place_in None = []
place_in (Some placed) = place_of placed ∷ []

-- the index in the list that a grant of the file reports
abbrev pub grant_places : ℕ → Deed → Told → List ℕ
grant_places file (deed.Take other) (told.Grant grant) =
    if other == file then place_in grant.placed else []
grant_places file (deed.Finish other) (told.Grant grant) =
    if other == file then place_in grant.placed else []
grant_places file _ _ = []

-- the indices in the list that grants of the file report
abbrev pub places_granted : ℕ → List Event → List ℕ
places_granted file [] = []
places_granted file (e ∷ events) = grant_places file e.deed e.told ++ places_granted file events

-- the index of the violation that the event reports
abbrev pub violation_places : Deed → Told → List ℕ
violation_places (deed.Check file func action rules) (told.OpenWriters place) = place ∷ []
violation_places (deed.Check file func action rules) (told.ToMToU place) = place ∷ []
violation_places _ _ = []

-- the indices of the violations that the events report
abbrev pub places_violated : List Event → List ℕ
places_violated [] = []
places_violated (e ∷ events) = violation_places e.deed e.told ++ places_violated events

-- the entry at this index of the list has the name of the inode, and the digest of these bytes by
-- the entry's own algorithm
abbrev pub ShowsContent : Inode → List Entry → List ℕ → ℕ → Type 0
ShowsContent inode list bytes place = (e : Entry)
    × ((slice_get list place ≡ Some e) × (e.violation ≡ false)
    × (e.name ≡ shown_name e.template inode.path) × (e.digest ≡ digest_of e.digest.algo bytes))

-- the entry at this index of the list is a violation of the inode
abbrev pub ShowsViolation : Inode → List Entry → ℕ → Type 0
ShowsViolation inode list place = (e : Entry)
    × ((slice_get list place ≡ Some e) × (e.violation ≡ true)
    × (e.name ≡ shown_name e.template inode.path))

-- The check is answered: since then the file got a grant with an index in the list, at which there
-- is the digest of these bytes, or a violation was reported, at the check or since. `later` are the
-- events after the check, and `check` is its own event.
abbrev pub IsAnswered : Inode → List Entry → ℕ → List ℕ → List Event → Event → Type 0
IsAnswered inode list file bytes later check =
    (place : ℕ) × (Contains (places_granted file later) place
    × (ShowsContent inode list bytes place
    ⊎ ((violation : ℕ) × (Contains (places_violated (later ++ check ∷ [])) violation
    × ShowsViolation inode list violation))))

-- A read of the file after this journal is covered: each check of the file that measures is
-- answered, with the present content.
abbrev pub IsCovered : Inode → List Entry → ℕ → List Event → Type 0
IsCovered inode list file events =
    (later : List Event) (check : Event) (before : List Event) → events ≡ later ++ check ∷ before
    → is_measuring file check.deed ≡ true
    → IsAnswered inode list file (content events) later check
