-- Agreement of an inode's pass of the measurement list with the inode's journal, newest event
-- first.
use Rattle.std.specs.Prelude.{◌≡◌, ◌<◌, List, [], ◌∷◌, ◌++◌, length, take, All, Option, Some, None}
use mathlib.Core.List.{IsPrefix}
use Rattle.ima_templates.specs.Same.{add, place_of_same, placed}
use Rattle.ima_templates.specs.declared.entry.Entry.{Entry}
use Rattle.inode_meta.specs.declared.step.Who.{Who}
use Rattle.inode_events.specs.Asked.{asked, outcome}
use Rattle.inode_events.specs.Inode.{Inode}
use Rattle.inode_events.specs.Listing.{IsListed, Listed, Mention, entries_added, listed_in, mentions}
use Rattle.inode_events.specs.Merged.{PlacesRise, places_named}
use Rattle.inode_events.specs.declared.deed.Deed.{Deed}
use Rattle.inode_events.specs.declared.deed.Deed.TheVariants as deed
use Rattle.inode_events.specs.declared.told.Event.{Event}
use Rattle.inode_events.specs.declared.told.Told.{Told}
use Rattle.journal_laws.specs.Asked.{added_by}

-- ---- the facts

-- the added entry is the same as no entry before it
abbrev pub IsNewIn : List Entry → Option Listed → Type 0
IsNewIn list None = Unit {0}
IsNewIn list (Some added) = place_of_same (take added.0 list) added.1 ≡ None

-- every added entry is the same as no entry before it
abbrev pub AreNewIn : List Entry → List Mention → Type 0
AreNewIn list [] = Unit {0}
AreNewIn list (m ∷ earlier) = IsNewIn list m.added × AreNewIn list earlier

-- each entry that the journal adds is the same as no entry before it in the list
abbrev pub AddsNew : Inode → List Entry → List Event → Type 0
AddsNew inode list events = AreNewIn list (mentions inode events)

-- the pass has the entries that the journal adds, and the list that it has seen agrees with the
-- journal
pub record IsBooked (inode : Inode) (events : List Event) (seen : List Entry)
    (mine : List Listed) : Type 0 where
  -- its own entries are those that the journal adds
  pub mine_is : mine ≡ entries_added inode events
  -- each entry that an event adds is at its place, and each that it finds is the first such entry
  pub listed : IsListed inode seen events
  -- no added entry is the same as an earlier one
  pub adds_new : AddsNew inode seen events
  -- each added entry has a place above all places that were named before
  pub rise : PlacesRise inode events
  -- the pass has seen each place that the journal names
  pub below : All (λ named. named.1 < length seen) (places_named inode events)

-- ---- the effect of a step on the pass

-- the pass adds the entry to this list: what it has seen before and after, and its own entries
-- before and after
pub record BooksEntry (list : List Entry) (e : Entry) (old new : List Entry)
    (had has : List Listed) : Type 0 where
  pub before : IsPrefix old list
  pub seen : new ≡ add list e
  pub mine : has ≡ had ++ listed_in (added_by (placed list e) e)

-- the effect of a step on the pass: that of its entry, or none if it asks for no entry
abbrev pub Books : List Entry → Option Entry → List Entry → List Entry → List Listed → List Listed
    → Type 0
Books list None old new had has = (new ≡ old) × (has ≡ had)
Books list (Some e) old new had has = BooksEntry list e old new had has

-- a journal with one more event
abbrev pub told_on : Who → Deed → Told → List Event → List Event
told_on who d t before = record { who = who; deed = d; told = t } ∷ before

-- ---- the laws

-- a pass with no entries agrees with a birth, which adds and finds nothing
abbrev pub KeptAtBirth : Type 0
KeptAtBirth =
    (inode : Inode) (who : Who) (t : Told) → IsBooked inode (told_on who deed.Birth t []) [] []

-- the pass still agrees with the journal after a look
abbrev pub KeptByLook : Type 0
KeptByLook = (inode : Inode) (p : List Event) (seen seen2 : List Entry) (mine : List Listed)
    → IsPrefix seen seen2
    → IsBooked inode p seen mine → IsBooked inode p seen2 mine

-- the pass still agrees with the journal after an event whose outcome the list determines
abbrev pub KeptByOutcome : Type 0
KeptByOutcome = (inode : Inode) (p : List Event) (who : Who) (d : Deed) (t : Told)
    (list seen seen2 : List Entry) (mine mine2 : List Listed)
    → IsBooked inode p seen mine → Books list (asked inode d p) seen seen2 mine mine2
    → outcome inode list d p ≡ Some t
    → IsBooked inode (told_on who d t p) seen2 mine2
