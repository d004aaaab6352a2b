-- The two orders of a journal. It is kept in the order of its events. The definitions read it from
-- its newest event back, so that "before" means the rest of the list, and the index of an event is
-- the length of the rest.
use Rattle.std.specs.Prelude.{◌≡◌, List, [], ◌∷◌, ◌++◌, reverse}
use Rattle.std.proofs.lemmas.List.{reverse-append}
use Rattle.inode_events.specs.declared.told.Event.{Event}

-- the events of a journal, newest first
unfoldable pub newest_first : List Event → List Event
newest_first journal = reverse journal

-- an event appended to the journal is its newest one
pub past_more : (journal : List Event) (e : Event)
    → newest_first (journal ++ e ∷ []) ≡ e ∷ newest_first journal
unfolding newest_first
past_more journal e = reverse-append journal (e ∷ [])
