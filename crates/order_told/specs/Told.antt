-- What calls were told in two journals of an inode.
use Rattle.std.specs.Prelude.{◌≡◌, ℕ, ◌<◌, nat_lt, All, Bool, true, false, List, length, reverse, Some, slice_get}
use Rattle.std.specs.List.{list_all}
use Rattle.inode_events.specs.EndedInode.{EndedInodeValue}
use Rattle.inode_events.specs.NewestFirst.{newest_first}
use Rattle.inode_events.specs.declared.deed.Deed.{Deed}
use Rattle.inode_events.specs.declared.deed.Deed.TheVariants as deed
use Rattle.inode_events.specs.declared.told.Event.{Event}
use Rattle.inode_events.specs.declared.told.Told.{Told}
use Rattle.inode_events.specs.declared.told.Told.TheVariants as told
use Rattle.inode_events.specs.templates.declared.entry.Entry.{Entry}
use Rattle.order_outcomes.specs.alike.Alike.{places_in}
use Rattle.order_outcomes.specs.Calls.{is_read, listed_of, verdict_of}

-- a check is of a file with a name below the end
abbrev pub is_check_below : ℕ → Deed → Bool
is_check_below end (deed.Check file func action rules) = nat_lt file end
is_check_below end _ = true

abbrev pub are_checks_below : ℕ → List Event → Bool
are_checks_below end events = list_all (λ (e : Event). is_check_below end e.deed) events

abbrev pub is_grant : Told → Bool
is_grant (told.Grant grant) = true
is_grant _ = false

-- ---- entries

-- the entry is at one of these places
abbrev pub IsAt : List Entry → List ℕ → Entry → Type 0
IsAt list places e =
    (k : ℕ) × ((place : ℕ) × ((slice_get places k ≡ Some place) × (slice_get list place ≡ Some e)))

-- the entry at the place of the other list is at one of these places
abbrev pub IsThere : List Entry → List ℕ → List Entry → ℕ → Type 0
IsThere list places other place = (e : Entry) → slice_get other place ≡ Some e → IsAt list places e

-- the grants of the journals report the same entries of the lists
pub record AreEntriesSame (list list2 : List Entry) (j j2 : List Event) : Type 0 where
  pub places : List ℕ
  pub places2 : List ℕ
  pub told : reverse places ≡ places_in (newest_first j)
  pub told2 : reverse places2 ≡ places_in (newest_first j2)
  pub below : All (λ place. place < length list) places
  pub below2 : All (λ place. place < length list2) places2
  pub there : All (IsThere list2 places2 list) places
  pub back : All (IsThere list places list2) places2

-- ---- calls

-- the inodes say the same of the call of the event
pub record IsCallSame (list list2 : List Entry) (a b : List EndedInodeValue) (e : Event) : Type 0
  where
    pub verdict : is_grant e.told ≡ true
        → verdict_of e.who.task e.who.call b ≡ verdict_of e.who.task e.who.call a
    pub listed : is_read e.deed ≡ true
        → listed_of list2 e.who.task e.who.call b ≡ listed_of list e.who.task e.who.call a
