-- The steps of one task on inodes, and the places of the measurement list in their outcomes.
use Rattle.std.specs.Prelude.{◌≡◌, ℕ, ◌+◌, ◌<◌, ◌==◌, true, All, Contains, List, [], ◌∷◌, ◌++◌, reverse, length, Option, Some, None, slice_get, if◌then◌else◌}
use Rattle.ima_templates.specs.declared.entry.Entry.{Entry}
use Rattle.ima_templates.specs.declared.entry.Placed.{Placed}
use Rattle.ima_templates.specs.declared.entry.Placed.TheVariants.{Added, Already}
use Rattle.inode_meta.specs.declared.step.Who.{Who}
use Rattle.inode_events.specs.Callers.{caller_of}
use Rattle.inode_events.specs.Merged.{Journal, is_earlier}
use Rattle.inode_events.specs.declared.deed.Deed.{Deed}
use Rattle.inode_events.specs.declared.deed.Deed.TheVariants as deed
use Rattle.inode_events.specs.declared.told.Event.{Event}
use Rattle.inode_events.specs.declared.told.Told.{Told}
use Rattle.inode_events.specs.declared.told.Told.TheVariants as told
use Rattle.journal_laws.specs.Own.{own_past}

-- a step that makes an event: the number of its journal, its place there, and the event
pub record Made : Type 0 where
  pub journal : ℕ
  pub place : ℕ
  pub event : Event

-- a step from its parts
abbrev pub made_of : ℕ → ℕ → Who → Deed → Told → Made
made_of journal place who d t =
    record { journal = journal; place = place; event = record { who = who; deed = d; told = t } }

-- ---- the places of the list in an event's outcome

-- the place at which a grant adds its entry
abbrev pub placed_added : Option Placed → Option ℕ
placed_added (Some (Added place)) = Some place
placed_added _ = None

-- the place that a grant names
abbrev pub placed_named : Option Placed → List ℕ
placed_named (Some (Added place)) = place ∷ []
placed_named (Some (Already place)) = place ∷ []
placed_named None = []

-- the place at which the event adds an entry
abbrev pub told_added : Deed → Told → Option ℕ
told_added (deed.Check file func action rules) (told.OpenWriters place) = Some place
told_added (deed.Check file func action rules) (told.ToMToU place) = Some place
told_added (deed.Take file) (told.Grant grant) = placed_added grant.placed
told_added (deed.Finish file) (told.Grant grant) = placed_added grant.placed
told_added _ _ = None

-- the places that the event names
abbrev pub told_named : Deed → Told → List ℕ
told_named (deed.Check file func action rules) (told.OpenWriters place) = place ∷ []
told_named (deed.Check file func action rules) (told.ToMToU place) = place ∷ []
told_named (deed.Take file) (told.Grant grant) = placed_named grant.placed
told_named (deed.Finish file) (told.Grant grant) = placed_named grant.placed
told_named _ _ = []

-- the place at which the event adds an entry, and the places that it names
abbrev pub place_added : Event → Option ℕ
place_added e = told_added e.deed e.told

abbrev pub place_named : Event → List ℕ
place_named e = told_named e.deed e.told

-- ---- along the steps of a task, newest first

-- the step named only places below this one
abbrev pub NamesBelow : ℕ → Made → Type 0
NamesBelow limit s = All (λ n. n < limit) (place_named s.event)

-- an added place is above all places that earlier steps named
abbrev pub Above : Option ℕ → List Made → Type 0
Above None before = Unit {0}
Above (Some place) before = All (NamesBelow place) before

-- each added place is above all places that earlier steps named
abbrev pub Rises : List Made → Type 0
Rises [] = Unit {0}
Rises (s ∷ before) = Above (place_added s.event) before × Rises before

-- the places rise, and the task's pass of the list has seen them all
pub record RisesWithin (steps : List Made) (seen : List Entry) : Type 0 where
  pub rises : Rises steps
  pub below : All (NamesBelow (length seen)) steps

-- the steps are in the order of their calls and step numbers
abbrev pub AreOrdered : List Made → Type 0
AreOrdered [] = Unit {0}
AreOrdered (s ∷ before) =
    All (λ b. is_earlier b.event.who s.event.who ≡ true) before × AreOrdered before

-- the steps are in order, and all of them come before the step that is due
pub record OrderedBefore (steps : List Made) (due : Who) : Type 0 where
  pub ordered : AreOrdered steps
  pub before : All (λ b. is_earlier b.event.who due ≡ true) steps

-- ---- the steps and the journals

-- the events in one journal, oldest first
abbrev pub own_in : ℕ → List Made → List (ℕ × Event)
own_in i [] = []
own_in i (s ∷ before) =
    if s.journal == i then own_in i before ++ (s.place, s.event) ∷ [] else own_in i before

-- the task has made steps: in each journal, its events are those of the steps, and the places rise
pub record Stepped (task : ℕ) (journals : List Journal) : Type 0 where
  pub steps : List Made
  pub own_is : (i : ℕ) (j : Journal) → slice_get journals i ≡ Some j
      → own_past (task + 1) j.events ≡ reverse (own_in i steps)
  pub rises : Rises steps
  pub ordered : AreOrdered steps

-- each event is by the inode itself or by one of this number of tasks, and each task has made its
-- steps
pub record AreStepped (tasks : ℕ) (journals : List Journal) : Type 0 where
  pub signed : (j : Journal) (e : Event) → Contains journals j → Contains j.events e
      → caller_of e < tasks + 1
  pub stepped : (k : ℕ) → k < tasks → Stepped k journals
