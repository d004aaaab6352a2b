-- What the open collection of a journal has taken: it depends on the contents alone.
use Rattle.std.specs.Prelude.{ℕ, ◌+◌, List, [], ◌∷◌, ◌++◌}
use Rattle.inode_events.specs.State.{content}
use Rattle.inode_events.specs.declared.deed.Deed.{Deed}
use Rattle.inode_events.specs.declared.deed.Deed.TheVariants as deed
use Rattle.inode_events.specs.declared.told.Event.{Event}
use Rattle.inode_events.specs.declared.told.Told.{Told}
use Rattle.inode_events.specs.declared.told.Told.TheVariants as told
use Rattle.inode_events.specs.pages.Content.{piece_at}
use Rattle.order_sights.specs.TakenValue.{TakenValue}

-- nothing is taken yet, or no collection is open
abbrev pub none_taken : TakenValue
none_taken = record { pieces = 0; bytes = [] }

-- after it took the next piece of the content
abbrev pub taken_more : List ℕ → TakenValue → TakenValue
taken_more content t = record {
  pieces = t.pieces + 1;
  bytes = t.bytes ++ piece_at content t.pieces;
}

-- after an event, before which this was the content
abbrev pub taken_after : Deed → Told → List ℕ → TakenValue → TakenValue
taken_after (deed.Take file) told.Begun content old = none_taken
taken_after (deed.CloseTake file) told.Begun content old = none_taken
taken_after (deed.Chunk file) told.More content old = taken_more content old
taken_after (deed.Chunk file) told.Last content old = taken_more content old
taken_after (deed.CloseChunk file) told.More content old = taken_more content old
taken_after (deed.CloseChunk file) told.Last content old = taken_more content old
taken_after (deed.Finish file) (told.Grant grant) content old = none_taken
taken_after (deed.CloseFinish file) told.Dropped content old = none_taken
taken_after (deed.CloseFinish file) told.LabelledDropped content old = none_taken
taken_after _ _ content old = old

-- newest event first
abbrev pub taken : List Event → TakenValue
taken [] = none_taken
taken (e ∷ before) = taken_after e.deed e.told (content before) (taken before)
