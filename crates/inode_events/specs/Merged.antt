-- The condition under which the measurement list is the one that the journals of all inodes give.
use Rattle.std.specs.Prelude.{◌≡◌, ℕ, ◌+◌, ◌<◌, ◌==◌, nat_lt, Bool, true, false, ◌&&◌, ◌||◌, All, Contains, List, [], ◌∷◌, ◌++◌, length, Option, Some, None, slice_get, sum_by, if◌then◌else◌}
use Rattle.ima_templates.specs.Same.{same}
use Rattle.ima_templates.specs.declared.entry.Entry.{Entry}
use Rattle.inode_meta.specs.declared.step.Who.{Who}
use Rattle.inode_events.specs.Inode.{Inode}
use Rattle.inode_events.specs.Listing.{IsListed, Listed, Mention, mentions}
use Rattle.inode_events.specs.declared.told.Event.{Event}

-- an inode with its journal, newest event first
pub record Journal : Type 0 where
  pub inode : Inode
  pub events : List Event

-- an index in the list that the outcome of a step reports
abbrev pub Named : Type 0
Named = Who × ℕ

abbrev pub named : Who → Option Listed → List Named
named who None = []
named who (Some listed) = (who, listed.0) ∷ []

abbrev pub all_added : List Mention → List Named
all_added [] = []
all_added (m ∷ earlier) = named m.who m.added ++ all_added earlier

abbrev pub all_named : List Mention → List Named
all_named [] = []
all_named (m ∷ earlier) = named m.who m.added ++ named m.who m.found ++ all_named earlier

-- the indices at which the events add an entry
abbrev pub places_added : Inode → List Event → List Named
places_added inode events = all_added (mentions inode events)

-- the indices that the events report: those at which they add an entry, and those at which they
-- find one
abbrev pub places_named : Inode → List Event → List Named
places_named inode events = all_named (mentions inode events)

-- the number of times that an entry is added at the index
abbrev pub times_added : ℕ → List Named → ℕ
times_added place [] = 0
times_added place (n ∷ rest) =
    if n.1 == place then 1 + times_added place rest else times_added place rest

-- both steps are of one task, and the first comes before the second
abbrev pub is_earlier : Who → Who → Bool
is_earlier a b =
    a.task == b.task && (nat_lt a.call b.call || (a.call == b.call && nat_lt a.step b.step))

abbrev pub MentionsRise : List Mention → Type 0
MentionsRise [] = Unit {0}
MentionsRise (m ∷ earlier) =
    All (λ added. All (λ name. name.1 < added.1) (all_named earlier)) (named m.who m.added)
    × MentionsRise earlier

-- along the journal, an entry is added above all indices reported before it
abbrev pub PlacesRise : Inode → List Event → Type 0
PlacesRise inode events = MentionsRise (mentions inode events)

-- along a task's steps, an entry is added above all indices that its earlier steps reported, in
-- whichever journal
abbrev pub StepsRise : List Journal → Type 0
StepsRise journals = (j k : Journal) (earlier later : Named) → Contains journals j
    → Contains journals k
    → Contains (places_named j.inode j.events) earlier
    → Contains (places_added k.inode k.events) later
    → is_earlier earlier.0 later.0 ≡ true → earlier.1 < later.1

pub record IsMerged (boot : Entry) (list : List Entry) (journals : List Journal) : Type 0 where
  -- the first entry is the boot aggregate
  pub first : slice_get list 0 ≡ Some boot
  -- an added entry is at its index; a found entry is in the list, first at its index
  pub listed : All (λ j. IsListed j.inode list j.events) journals
  -- no event added that first entry, and exactly one event added each of the others
  pub once : (place : ℕ) → place < length list
      → sum_by (λ j. times_added place (places_added j.inode j.events)) journals
      ≡ (if place == 0 then 0 else 1)
  -- along a journal, and along a task's steps, the indices of added entries increase
  pub along_journals : All (λ j. PlacesRise j.inode j.events) journals
  pub along_tasks : StepsRise journals
  -- no entry is the same as an earlier one
  pub distinct : (a b : ℕ) (x y : Entry) → a < b → slice_get list a ≡ Some x
      → slice_get list b ≡ Some y → same x y ≡ false
