-- The laws of own entries: what a caller's entries say holds of the journal.
use Rattle.std.specs.Prelude.{◌≡◌, ◌<◌, ℕ, All, true, false, List, ◌++◌, length, map, reverse, Some, slice_get}
use mathlib.Core.List.{IsPrefix}
use Rattle.grow_list.specs.Entries.{entries_of}
use Rattle.inode_events.specs.Callers.{caller_of}
use Rattle.inode_events.specs.Checks.{last_check}
use Rattle.inode_events.specs.Files.{held}
use Rattle.inode_events.specs.Inode.{Inode}
use Rattle.inode_events.specs.Integrity.{collecting}
use Rattle.inode_events.specs.Legal.{EachFollows, May}
use Rattle.inode_events.specs.Stage.{stage, is_collecting, is_gone, stage_in}
use Rattle.inode_events.specs.NewestFirst.{newest_first}
use Rattle.inode_events.specs.declared.deed.Deed.{Deed}
use Rattle.inode_events.specs.declared.told.Event.{Event}
use Rattle.journal_laws.specs.Standing.{event_at}
use Rattle.journal_laws.specs.Own.{IsBy, IsOwned, MayByMine, MayByOwn, NoneOf, check_in, counter, how_in, own_past}

-- the entries of one number in a shared list, reversed, are the own entries of that caller in the
-- journal, newest first
abbrev pub OwnIsOwn : Type 0
OwnIsOwn = (n : ℕ) (list : List Event)
    → own_past n (newest_first list) ≡ reverse (entries_of n (map caller_of list) list)

-- the places of own entries lie within the journal
abbrev pub OwnIsWithin : Type 0
OwnIsWithin = (n : ℕ) (list : List Event)
    → All (λ x. x.0 < length list) (entries_of n (map caller_of list) list)

-- the event at a place is the element of the list there
abbrev pub EventIsAt : Type 0
EventIsAt = (place : ℕ) (list : List Event)
    → event_at place (newest_first list) ≡ slice_get list place

-- a file that isn't gone according to a caller's entries is that caller's
abbrev pub FileIsOwn : Type 0
FileIsOwn = (inode : Inode) (n file : ℕ) (p : List Event) → IsOwned p
    → is_gone (stage_in inode file (own_past n p)) ≡ false
    → counter file p ≡ Some n

-- own entries determine the stage of the caller's file
abbrev pub StageIsOwn : Type 0
StageIsOwn = (inode : Inode) (n file : ℕ) (p : List Event) → IsOwned p → counter file p ≡ Some n
    → stage inode file p ≡ stage_in inode file (own_past n p)

-- own entries determine the last check of the caller's file
abbrev pub CheckIsOwn : Type 0
CheckIsOwn = (n file : ℕ) (p : List Event) → IsOwned p → counter file p ≡ Some n
    → last_check file p ≡ check_in file (own_past n p)

-- own entries determine how the caller's file is held, if it isn't gone
abbrev pub HowIsOwn : Type 0
HowIsOwn = (inode : Inode) (n file : ℕ) (p : List Event) → EachFollows inode p
    → counter file p ≡ Some n
    → is_gone (stage inode file p) ≡ false → held file p ≡ how_in file (own_past n p)

-- a deed that a caller's entries allow may be done next in the journal, by that caller
abbrev pub MayIsOwn : Type 0
MayIsOwn = (inode : Inode) (n : ℕ) (p : List Event) (d : Deed) → EachFollows inode p → IsOwned p
    → MayByOwn inode (own_past n p) d
    → May inode p d × IsBy n d p

-- events of others leave the collection of a caller's file
abbrev pub CollectionStays : Type 0
CollectionStays = (inode : Inode) (n file : ℕ) (later p : List Event)
    → EachFollows inode (later ++ p) → IsOwned (later ++ p)
    → NoneOf n later → counter file p ≡ Some n → is_collecting (stage inode file p) ≡ true
    → (stage inode file (later ++ p) ≡ stage inode file p)
    × (collecting inode (later ++ p) ≡ collecting inode p)

-- if a caller has seen all of its entries, the rest of the journal has none of them
abbrev pub NoneBeyond : Type 0
NoneBeyond = (n : ℕ) (seen list : List Event) → IsPrefix seen list
    → All (λ x. x.0 < length seen) (entries_of n (map caller_of list) list)
    → (later : List Event) × (newest_first list ≡ later ++ newest_first seen) × NoneOf n later

-- a collection that is open according to a caller's entries is as the caller last saw it
abbrev pub CollectionIsSeen : Type 0
CollectionIsSeen = (inode : Inode) (n file : ℕ) (seen list : List Event)
    → EachFollows inode (newest_first list) → IsOwned (newest_first list)
    → IsPrefix seen list → All (λ x. x.0 < length seen) (entries_of n (map caller_of list) list)
    → is_collecting (stage_in inode file (own_past n (newest_first list))) ≡ true
    → collecting inode (newest_first list) ≡ collecting inode (newest_first seen)

-- ---- a look

-- What the entries of pass n imply for the list: a deed that they allow may be done by this caller;
-- the last check of a file that isn't gone is theirs; and if all of them lie within what the pass
-- had seen before, a collection that is open according to them is as it was then.
pub record TellsByMine (inode : Inode) (n : ℕ) (seen list : List Event) (mine : List (ℕ × Event))
    : Type 0 where
  pub may : (d : Deed) → MayByMine inode mine d
      → May inode (newest_first list) d × IsBy n d (newest_first list)
  pub check : (file : ℕ) → is_gone (stage_in inode file (reverse mine)) ≡ false
      → last_check file (newest_first list) ≡ check_in file (reverse mine)
  pub collection : (file : ℕ) → All (λ x. x.0 < length seen) mine
      → is_collecting (stage_in inode file (reverse mine)) ≡ true
      → collecting inode (newest_first list) ≡ collecting inode (newest_first seen)

-- what the entries of a pass imply holds once the pass has looked
abbrev pub LookTells : Type 0
LookTells = (inode : Inode) (n : ℕ) (seen list : List Event) (mine : List (ℕ × Event))
    → EachFollows inode (newest_first list) → IsOwned (newest_first list) → IsPrefix seen list
    → entries_of n (map caller_of list) list ≡ mine → TellsByMine inode n seen list mine
