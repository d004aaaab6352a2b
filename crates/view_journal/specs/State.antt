-- What a journal says of the content: not hashed, as hashed, or written since. Lists of events are
-- newest first.
use Rattle.std.specs.Prelude.{ℕ, ◌+◌, ◌*◌, Bool, true, false, ◌||◌, nat_lt, List, [], ◌∷◌, Option, Some, None, option_map, if◌then◌else◌}
use Rattle.report_read.specs.words.declared.event.Deed.{Deed}
use Rattle.report_read.specs.words.declared.event.Deed.TheVariants as deed
use Rattle.report_read.specs.words.declared.event.Event.{Event}
use Rattle.report_read.specs.words.declared.event.Outcome.{Outcome}
use Rattle.report_read.specs.words.declared.event.Outcome.TheVariants as outcome
use Rattle.view_journal.specs.declared.kinds.Collection.{Collection}
use Rattle.view_journal.specs.declared.kinds.Freshness.{Freshness}
use Rattle.view_journal.specs.declared.kinds.Freshness.TheVariants as fresh
use Rattle.view_journal.specs.Files.{up_to}

abbrev pub begun : Option Collection
begun = Some (record { pieces = 0; complete = false; hit = false })

abbrev pub more_of : Bool → Collection → Collection
more_of complete c = record c { pieces = c.pieces + 1; complete = complete }

abbrev pub one_more : Bool → Option Collection → Option Collection
one_more complete c = option_map (more_of complete) c

abbrev pub touched_of : ℕ → Collection → Collection
touched_of from c =
    record c { hit = c.hit || (c.complete || nat_lt from (4096 * c.pieces)) }

-- a change from this offset on
abbrev pub touched : ℕ → Option Collection → Option Collection
touched from c = option_map (touched_of from) c

abbrev pub collecting_after : Deed → Outcome → Option Collection → Option Collection
collecting_after (deed.Take file) outcome.Begun old = begun
collecting_after (deed.CloseTake file) outcome.Begun old = begun
collecting_after (deed.Chunk file) outcome.More old = one_more false old
collecting_after (deed.Chunk file) outcome.Last old = one_more true old
collecting_after (deed.CloseChunk file) outcome.More old = one_more false old
collecting_after (deed.CloseChunk file) outcome.Last old = one_more true old
collecting_after (deed.Finish file) o old = None
collecting_after (deed.CloseFinish file) o old = None
collecting_after (deed.Write file from len) outcome.Done old = touched from old
collecting_after (deed.Trunc file len) outcome.Done old = touched len old
collecting_after _ _ old = old

-- the collection after these events
abbrev pub collecting : List Event → Option Collection
collecting [] = None
collecting (e ∷ before) = collecting_after e.deed e.outcome (collecting before)

abbrev pub hashed : Option Collection → Freshness
hashed None = fresh.Written
hashed (Some c) = if c.hit then fresh.Written else fresh.AsHashed

abbrev pub written : Freshness → Freshness
written fresh.NotHashed = fresh.NotHashed
written _ = fresh.Written

abbrev pub freshness_after : Deed → Outcome → Option Collection → Freshness → Freshness
freshness_after (deed.Finish file) o c old = hashed c
freshness_after (deed.CloseFinish file) outcome.LabelledDropped c old = hashed c
freshness_after (deed.Write file from len) outcome.Done c old = written old
freshness_after (deed.Trunc file len) outcome.Done c old = written old
freshness_after _ _ c old = old

-- the content after these events
abbrev pub freshness : List Event → Freshness
freshness [] = fresh.NotHashed
freshness (e ∷ before) =
    freshness_after e.deed e.outcome (collecting before) (freshness before)

abbrev pub freshness_at : ℕ → List Event → Freshness
freshness_at place journal = freshness (up_to place journal)

-- a write or a truncation that was done
abbrev pub is_write : Deed → Outcome → Bool
is_write (deed.Write file from len) outcome.Done = true
is_write (deed.Trunc file len) outcome.Done = true
is_write _ _ = false
