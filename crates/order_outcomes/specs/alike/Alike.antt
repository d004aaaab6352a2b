-- When two moments of a script's run are alike: the same was told so far, and the same can follow.
-- What decides the next steps is what a journal says of its inode, and not the order of its events,
-- and which entries the measurement list has, and not their order. A file is named by the place of
-- its count, which depends on the order of events: the files of the second moment are those of the
-- first under other names.
use Rattle.std.specs.Prelude.{◌≡◌, ℕ, ◌+◌, ◌==◌, ◌<◌, ◌≤◌, ◌⊎◌, All, Bool, true, List, [], ◌∷◌, length, map, Option, Some, None, option_map, slice_get}
use Rattle.std.specs.List.{find}
use Rattle.report_text.specs.model.Scene.{Scene, ScriptFile, inode_of}
use Rattle.report_text.specs.model.Turns.{Moment, journal_at}
use Rattle.report_text.specs.model.events.Checks.{Check, last_check, no_action}
use Rattle.report_text.specs.model.events.Files.{execs, held, readers, writers}
use Rattle.report_text.specs.model.events.Inode.{Inode}
use Rattle.report_text.specs.model.events.Integrity.{Collection, Digests, attributes, collecting, in_force}
use Rattle.report_text.specs.model.events.Marks.{must_measure, update}
use Rattle.report_text.specs.model.events.NewestFirst.{newest_first}
use Rattle.report_text.specs.model.events.Semaphores.{posts, waits}
use Rattle.report_text.specs.model.events.State.{content, metadata, modified_in, modified_since, new, present, span, versions}
use Rattle.report_text.specs.model.events.Verdicts.{Key, verdict_in_force}
use Rattle.report_text.specs.model.events.declared.told.Event.{Event}
use Rattle.report_text.specs.model.events.hashes.declared.algo.Algo.{Algo}
use Rattle.report_text.specs.model.events.hashes.declared.digest.Digest.{Digest}
use Rattle.report_text.specs.model.events.policy.declared.rule.Func.TheVariants as func
use Rattle.report_text.specs.model.events.templates.Same.{same}
use Rattle.report_text.specs.model.events.templates.declared.entry.Entry.{Entry}
use Rattle.order_outcomes.specs.Calls.{is_listed, listed_in, place_told, verdict_in}
use Rattle.order_outcomes.specs.Outcome.{lines_of}
use Rattle.order_outcomes.specs.declared.lines.Kind.{Kind}
use Rattle.order_outcomes.specs.alike.Names.{Naming, is_used, position_named}

-- ---- the measurement list

-- the first entry that is the same as e
abbrev pub found_in : List Entry → Entry → Option Entry
found_in list e = find (λ earlier. same earlier e) list

-- the list has the entry
abbrev pub IsIn : List Entry → Entry → Type 0
IsIn list e = (place : ℕ) × (slice_get list place ≡ Some e)

-- the list has all entries of the other one
abbrev pub AreIn : List Entry → List Entry → Type 0
AreIn list other = (place : ℕ) (e : Entry) → slice_get other place ≡ Some e → IsIn list e

-- the lists have the same entries, in any order
pub record AreListsAlike (list list2 : List Entry) : Type 0 where
  -- an outcome tells them as sets of lines
  pub lines : (kind : Kind) → lines_of kind list2 ≡ lines_of kind list
  -- the same is found of an entry that is to be added
  pub found : (e : Entry) → found_in list2 e ≡ found_in list e

-- ---- an inode

-- the open collection as the next steps see it: whether the content was modified since it began
-- matters, and not where it began
pub record CollectionSeen : Type 0 where
  pub closing : Bool
  pub algo : Algo
  pub pieces : ℕ
  pub bytes : List ℕ
  pub complete : Bool
  pub stale : Bool

abbrev pub collection_seen : List Event → Collection → CollectionSeen
collection_seen p c = record {
  closing = c.closing;
  algo = c.algo;
  pieces = c.pieces;
  bytes = c.bytes;
  complete = c.complete;
  stale = modified_since c.begin p;
}

pub record DigestsSeen : Type 0 where
  pub digest : Digest
  pub sha1 : Digest
  pub stale : Bool

abbrev pub digests_seen : List Event → Digests → DigestsSeen
digests_seen p d = record {
  digest = d.digest;
  sha1 = d.sha1;
  stale = modified_since d.begin p;
}

-- it began before the end of the journal
abbrev pub HasBegun : ℕ → Option Collection → Type 0
HasBegun end None = Unit {0}
HasBegun end (Some c) = c.begin ≤ end

abbrev pub HaveBegun : ℕ → Option Digests → Type 0
HaveBegun end None = Unit {0}
HaveBegun end (Some d) = d.begin ≤ end

abbrev pub unchecked : Check
unchecked = record { func = func.FileCheck; action = no_action }

abbrev pub with_place : Option ℕ → List ℕ → List ℕ
with_place None places = places
with_place (Some place) places = place ∷ places

-- the places in the list that the grants of these events report, newest first
abbrev pub places_in : List Event → List ℕ
places_in [] = []
places_in (e ∷ before) = with_place (place_told e.told) (places_in before)

-- events, newest first, name files that were counted before them, and entries that are in the list
pub record IsSound (inode : Inode) (list : List Entry) (p : List Event) : Type 0 where
  pub files : (file : ℕ) → length p ≤ file → last_check file p ≡ unchecked
  pub collection : HasBegun (length p) (collecting inode p)
  pub digests : HaveBegun (length p) (in_force inode p)
  pub places : All (λ place. place < length list) (places_in p)

-- The inode by the lists and its journals in the two moments, oldest event first. `used` are the
-- files that tasks have in the first moment, and `r` gives their names in the second
pub record IsInodeAlike (inode : Inode) (list list2 : List Entry) (used : ℕ → Bool) (r : ℕ → ℕ)
    (journal journal2 : List Event) : Type 0 where
  pub sound : IsSound inode list (newest_first journal)
  pub sound2 : IsSound inode list2 (newest_first journal2)
  -- its files
  pub below : (file : ℕ) → used file ≡ true → file < length journal
  pub below2 : (file : ℕ) → used file ≡ true → r file < length journal2
  pub apart : (f g : ℕ) → used f ≡ true → used g ≡ true → (r f == r g) ≡ (f == g)
  pub how : (file : ℕ) → used file ≡ true
      → held (r file) (newest_first journal2) ≡ held file (newest_first journal)
  pub checks : (file : ℕ) → used file ≡ true
      → last_check (r file) (newest_first journal2) ≡ last_check file (newest_first journal)
  -- its state
  pub present_in : present (newest_first journal2) ≡ present (newest_first journal)
  pub new_in : new (newest_first journal2) ≡ new (newest_first journal)
  pub versions_in : versions (newest_first journal2) ≡ versions (newest_first journal)
  pub content_in : content (newest_first journal2) ≡ content (newest_first journal)
  pub metadata_in : metadata (newest_first journal2) ≡ metadata (newest_first journal)
  pub attributes_in : attributes inode (newest_first journal2)
      ≡ attributes inode (newest_first journal)
  pub writers_in : writers (newest_first journal2) ≡ writers (newest_first journal)
  pub readers_in : readers (newest_first journal2) ≡ readers (newest_first journal)
  pub execs_in : execs (newest_first journal2) ≡ execs (newest_first journal)
  pub must_measure_in : must_measure (newest_first journal2) ≡ must_measure (newest_first journal)
  pub update_in : update (newest_first journal2) ≡ update (newest_first journal)
  pub modified : modified_in (span (newest_first journal2))
      ≡ modified_in (span (newest_first journal))
  pub collection : option_map (collection_seen (newest_first journal2))
      (collecting inode (newest_first journal2))
      ≡ option_map (collection_seen (newest_first journal))
      (collecting inode (newest_first journal))
  pub digests : option_map (digests_seen (newest_first journal2))
      (in_force inode (newest_first journal2))
      ≡ option_map (digests_seen (newest_first journal)) (in_force inode (newest_first journal))
  pub verdicts : (key : Key)
      → verdict_in_force inode key (newest_first journal2)
      ≡ verdict_in_force inode key (newest_first journal)
  -- what calls were told
  pub shown : (bytes : List ℕ)
      → is_listed list2 bytes (newest_first journal2) ≡ is_listed list bytes (newest_first journal)
  pub told : (task n : ℕ) → verdict_in task n journal2 ≡ verdict_in task n journal
  pub listed : (task n : ℕ)
      → listed_in list2 task n (newest_first journal2)
      ≡ listed_in list task n (newest_first journal)

-- ---- a moment

-- the files have these names in the second moment
pub record IsAlikeBy (scene : Scene) (r : Naming) (a b : Moment) : Type 0 where
  -- a file that isn't counted yet has no other name, nor has a file that isn't in the scene
  pub none : (i : ℕ) → r i 0 ≡ 0
  pub elsewhere : (i : ℕ) → slice_get scene.script_files i ≡ None → (file : ℕ) → r i file ≡ file
  pub positions : b.positions ≡ map (position_named r) a.positions
  pub inodes : (i : ℕ) (s : ScriptFile) → slice_get scene.script_files i ≡ Some s
      → IsInodeAlike (inode_of scene s) a.state.list b.state.list (is_used a.positions i) (r i)
      (journal_at a.state i) (journal_at b.state i)
  pub lists : AreListsAlike a.state.list b.state.list
  pub added : b.state.added ≡ a.state.added
  -- each semaphore has as many more posts than waits in one moment as in the other
  pub semaphores : (sem : ℕ)
      → posts sem (newest_first b.state.signals) + waits sem (newest_first a.state.signals)
      ≡ posts sem (newest_first a.state.signals) + waits sem (newest_first b.state.signals)

-- the moments differ only in the names of their files and in the order of their lists
abbrev pub IsRenamed : Scene → Moment → Moment → Type 0
IsRenamed scene a b = (r : Naming) × IsAlikeBy scene r a b

-- the same was told so far, and the same can follow
abbrev pub IsAlike : Scene → Moment → Moment → Type 0
IsAlike scene a b = (a ≡ b) ⊎ IsRenamed scene a b

-- the journals of the moment are sound, and its tasks have files that were counted
pub record AreSound (scene : Scene) (a : Moment) : Type 0 where
  pub journals : (i : ℕ) (s : ScriptFile) → slice_get scene.script_files i ≡ Some s
      → IsSound (inode_of scene s) a.state.list (newest_first (journal_at a.state i))
  pub files : (i : ℕ) (s : ScriptFile) → slice_get scene.script_files i ≡ Some s → (file : ℕ)
      → is_used a.positions i file ≡ true → file < length (journal_at a.state i)
