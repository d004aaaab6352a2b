-- The contract view of a journal with the state of its inode.
use Rattle.std.specs.Prelude.{◌≡◌, ℕ, ◌<◌, ◌==◌, false, All, List, [], ◌∷◌, count_by}
pub use Rattle.grow_list.specs.Others.{beside_own}
use Rattle.grow_list.specs.Shown.{ListName, Passed}
use Rattle.inode_events.specs.Inode.{Inode, nobody}
use Rattle.inode_events.specs.declared.deed.Deed.TheVariants as deed
use Rattle.inode_events.specs.declared.image.Image.{Image}
use Rattle.inode_events.specs.declared.told.Event.{Event}
use Rattle.inode_events.specs.declared.told.Told.{Told}
use Rattle.inode_events.specs.declared.told.Told.TheVariants as told

-- the inode, the name of its journal, the number of callers, the number of further events for which
-- there is room, and the events, oldest first
pub record JournalValue : Type 0 where
  pub inode : Inode
  pub name : ListName
  pub callers : ℕ
  pub spare : ℕ
  pub list : List Event

-- the same journal; only its room may differ
pub record IsSameJournal (old new : JournalValue) : Type 0 where
  pub inode : new.inode ≡ old.inode
  pub name : new.name ≡ old.name
  pub callers : new.callers ≡ old.callers
  pub list : new.list ≡ old.list

-- ---- the birth, read back from the first event: no copy is kept

-- the image of a file that doesn't exist
abbrev pub nothing : Image
nothing = record {
  present = false;
  content = [];
  attrs = [];
  meta = record { ino = 0; generation = 0; uid = 0; gid = 0; mode = 0; place = 0 };
  versions = false;
}

abbrev pub image_in : Told → Image
image_in (told.Image image) = image
image_in _ = nothing

abbrev pub birth_in : List Event → Image
birth_in [] = nothing
birth_in (e ∷ es) = image_in e.told

-- the birth of an inode with this image
abbrev pub birth_of : Image → Event
birth_of image = record { who = nobody; deed = deed.Birth; told = told.Image image }

-- ---- passes

-- the passes are all of the journal's except its own, each once
pub record HasOthers (j : JournalValue) (passes : List (Passed Event)) : Type 0 where
  pub of_journal : All (λ p. p.name ≡ j.name) passes
  pub one_each : (n : ℕ) → n < j.callers → count_by (λ p. p.number == n) passes ≡ beside_own n

-- the pass once it has seen the list
abbrev pub having_seen : List Event → Passed Event → Passed Event
having_seen list p = record p { seen = list }

-- a pass that has seen the list and has added nothing
abbrev pub new_pass : ListName → List Event → ℕ → Passed Event
new_pass name list number = record { name = name; number = number; seen = list; mine = [] }
