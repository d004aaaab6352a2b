-- The state of a file after the events: whether it exists, its content and its metadata.
use Rattle.std.specs.Prelude.{ℕ, ◌==◌, Bool, true, false, ◌&&◌, ◌||◌, not, nat_le, List, [], ◌∷◌, length, if◌then◌else◌}
use Rattle.inode_meta.specs.declared.identity.Meta.{Meta}
use Rattle.inode_pages.specs.Content.{overwritten, resized}
use Rattle.inode_events.specs.Files.{is_writer, writers}
use Rattle.inode_events.specs.declared.deed.Change.{Change}
use Rattle.inode_events.specs.declared.deed.Change.TheVariants as change
use Rattle.inode_events.specs.declared.deed.Deed.{Deed}
use Rattle.inode_events.specs.declared.deed.Deed.TheVariants as deed
use Rattle.inode_events.specs.declared.told.Event.{Event}
use Rattle.inode_events.specs.declared.told.Told.{Told}
use Rattle.inode_events.specs.declared.told.Told.TheVariants as told

-- ---- the kinds of events that matter

-- the event modifies the content: a write or a truncation was done
abbrev pub modifies : Deed → Told → Bool
modifies (deed.Write file from bytes) told.Done = true
modifies (deed.Trunc file len) told.Done = true
modifies _ _ = false

-- the event drops a writer
abbrev pub drops_writer : Deed → Told → Bool
drops_writer (deed.CloseTake file) told.Dropped = true
drops_writer (deed.CloseFinish file) told.Dropped = true
drops_writer (deed.CloseFinish file) told.LabelledDropped = true
drops_writer _ _ = false

-- the event drops a writer, and it was the only one
abbrev pub is_last_drop : Deed → Told → List Event → Bool
is_last_drop d t before = drops_writer d t && (writers before == 1)

-- the content was modified by the event at this index or by a later one
abbrev pub modified_since : ℕ → List Event → Bool
modified_since place [] = false
modified_since place (e ∷ before) =
    (modifies e.deed e.told && nat_le place (length before)) || modified_since place before

-- ---- the file

abbrev pub present_after : Deed → Told → Bool → Bool
present_after deed.Birth (told.Image image) old = image.present
present_after (deed.Count how) told.Held old = true
present_after _ _ old = old

-- the file exists: from its birth on, or from the open that creates it
abbrev pub present : List Event → Bool
present [] = false
present (e ∷ before) = present_after e.deed e.told (present before)

abbrev pub new_after : Deed → Told → List Event → Bool → Bool
new_after (deed.Count how) told.Held before old = old || not (present before)
new_after d t before old = if is_last_drop d t before then false else old

-- the file was created by an open, and its last writer hasn't closed it yet (the kernel's
-- IMA_NEW_FILE)
abbrev pub new : List Event → Bool
new [] = false
new (e ∷ before) = new_after e.deed e.told before (new before)

abbrev pub versions_after : Deed → Told → Bool → Bool
versions_after deed.Birth (told.Image image) old = image.versions
versions_after _ _ old = old

-- the file system counts the changes of its inodes
abbrev pub versions : List Event → Bool
versions [] = false
versions (e ∷ before) = versions_after e.deed e.told (versions before)

abbrev pub content_after : Deed → Told → List ℕ → List ℕ
content_after deed.Birth (told.Image image) old = image.content
content_after (deed.Write file from bytes) told.Done old = overwritten old from bytes
content_after (deed.Trunc file len) told.Done old = resized old len
content_after _ _ old = old

-- the bytes of the file after the journal
abbrev pub content : List Event → List ℕ
content [] = []
content (e ∷ before) = content_after e.deed e.told (content before)

abbrev pub changed : Change → Meta → Meta
changed (change.Mode mode) meta = record meta { mode = mode }
changed (change.Owner uid gid) meta = record meta { uid = uid; gid = gid }

abbrev pub metadata_after : Deed → Told → Meta → Meta
metadata_after deed.Birth (told.Image image) old = image.meta
metadata_after (deed.SetMeta change) told.Done old = changed change old
metadata_after _ _ old = old

-- inode number, generation, owner, group and mode
abbrev pub metadata : List Event → Meta
metadata [] = record { ino = 0; generation = 0; uid = 0; gid = 0; mode = 0; place = 0 }
metadata (e ∷ before) = metadata_after e.deed e.told (metadata before)

-- ---- the span of the present writers

-- the event counts the first writer
abbrev pub raises_writers : Deed → Told → List Event → Bool
raises_writers (deed.Count how) told.Held before = is_writer how && (writers before == 0)
raises_writers _ _ before = false

-- the events since the number of writers last rose from 0
abbrev pub span : List Event → List Event
span [] = []
span (e ∷ before) = if raises_writers e.deed e.told before then [] else e ∷ span before

-- one of these events modifies the content
abbrev pub modified_in : List Event → Bool
modified_in [] = false
modified_in (e ∷ events) = modifies e.deed e.told || modified_in events
