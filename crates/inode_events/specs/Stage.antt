-- The stage of an open file: the deeds done with it since its count, and so the calls that may name
-- it.
use Rattle.std.specs.Prelude.{ℕ, ◌==◌, Bool, true, false, List, [], ◌∷◌, length, if◌then◌else◌}
use Rattle.inode_events.specs.Checks.{asks}
use Rattle.inode_events.specs.Inode.{Inode}
use Rattle.inode_events.specs.declared.deed.Deed.{Deed}
use Rattle.inode_events.specs.declared.deed.Deed.TheVariants as deed
use Rattle.inode_events.specs.declared.told.Event.{Event}
use Rattle.inode_events.specs.declared.told.Told.{Told}
use Rattle.inode_events.specs.declared.told.Told.TheVariants as told

-- the stage of a file between two deeds
pub data Stage : Type 0 where
  -- not counted yet, or already dropped
  Gone : Stage
  -- counted, but not checked
  Counted : Stage
  -- checked, and the last check requires a take that hasn't led to a grant
  Asked : Stage
  -- its take began a collection with pieces left to hash
  Collecting : Stage
  -- the collection of its take took the last piece, and the finish is next
  Collected : Stage
  -- checked, and the last check requires no take or has led to a grant
  Settled : Stage
  -- its close began a collection with pieces left to hash
  CloseCollecting : Stage
  -- the collection of its close took the last piece, and the finish is next
  CloseCollected : Stage

-- the event is about this file: its count, or a deed that names it
abbrev pub touches : ℕ → ℕ → Deed → Bool
touches file place (deed.Count how) = place == file
touches file place (deed.Check other func action rules) = other == file
touches file place (deed.Take other) = other == file
touches file place (deed.Chunk other) = other == file
touches file place (deed.Finish other) = other == file
touches file place (deed.Read other from len) = other == file
touches file place (deed.Write other from bytes) = other == file
touches file place (deed.Trunc other len) = other == file
touches file place (deed.Close other) = other == file
touches file place (deed.CloseTake other) = other == file
touches file place (deed.CloseChunk other) = other == file
touches file place (deed.CloseFinish other) = other == file
touches file place _ = false

-- the stage of the event's own file after the event
abbrev pub stage_after : Inode → Deed → Told → Stage → Stage
stage_after inode (deed.Count how) told.Held old = Counted
stage_after inode (deed.Check file func action rules) t old =
    if asks inode action then Asked else Settled
stage_after inode (deed.Take file) told.Begun old = Collecting
stage_after inode (deed.Take file) (told.Grant grant) old = Settled
stage_after inode (deed.Chunk file) told.Last old = Collected
stage_after inode (deed.Finish file) (told.Grant grant) old = Settled
stage_after inode (deed.Close file) told.Dropped old = Gone
stage_after inode (deed.CloseTake file) told.Begun old = CloseCollecting
stage_after inode (deed.CloseTake file) told.Dropped old = Gone
stage_after inode (deed.CloseChunk file) told.Last old = CloseCollected
stage_after inode (deed.CloseFinish file) told.Dropped old = Gone
stage_after inode (deed.CloseFinish file) told.LabelledDropped old = Gone
stage_after inode _ _ old = old

-- the stage of any file after the event at an index
abbrev pub next_stage : Inode → ℕ → ℕ → Deed → Told → Stage → Stage
next_stage inode file place d t old =
    if touches file place d then stage_after inode d t old else old

-- the stage of the file after the whole journal
abbrev pub stage : Inode → ℕ → List Event → Stage
stage inode file [] = Gone
stage inode file (e ∷ before) =
    next_stage inode file (length before) e.deed e.told (stage inode file before)

-- the stage of the file, by only those events of the journal that the file's own task made, each
-- with its index, newest first
abbrev pub stage_in : Inode → ℕ → List (ℕ × Event) → Stage
stage_in inode file [] = Gone
stage_in inode file (e ∷ before) =
    next_stage inode file e.0 e.1.deed e.1.told (stage_in inode file before)

-- a file may be checked before its first take, and again if no take is outstanding
abbrev pub may_check : Stage → Bool
may_check Counted = true
may_check Settled = true
may_check _ = false

abbrev pub is_gone : Stage → Bool
is_gone Gone = true
is_gone _ = false

-- a collection is open for the file, and the kernel's integrity mutex is held for it
abbrev pub is_collecting : Stage → Bool
is_collecting Collecting = true
is_collecting Collected = true
is_collecting CloseCollecting = true
is_collecting CloseCollected = true
is_collecting _ = false
