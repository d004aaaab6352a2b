-- The outcome that each result of a call stands for. `None` is blocked: there is no event.
use Rattle.std.specs.Prelude.{◌≡◌, ℕ, Option, Some, None, Bool, true, false, Result, Ok, Err}
use Rattle.hash_algos.specs.declared.algo.Algo.{Algo}
use Rattle.inode_events.specs.declared.told.Told.{Told}
use Rattle.inode_events.specs.declared.told.Told.TheVariants as told
use Rattle.inode_pages.specs.declared.content.PageErr.{PageErr}
use Rattle.inode_pages.specs.declared.content.PageErr.TheVariants as page
use Rattle.inode_answers.specs.declared.answers.CloseTaken.{CloseTaken}
use Rattle.inode_answers.specs.declared.answers.CloseTaken.TheVariants as close_taken
use Rattle.inode_answers.specs.declared.answers.Counted.{Counted}
use Rattle.inode_answers.specs.declared.answers.Counted.TheVariants as counted
use Rattle.inode_answers.specs.declared.answers.Found.{Found}
use Rattle.inode_answers.specs.declared.answers.Found.TheVariants as found
use Rattle.inode_answers.specs.declared.answers.Piece.{Piece}
use Rattle.inode_answers.specs.declared.answers.Piece.TheVariants as piece
use Rattle.inode_answers.specs.declared.answers.Set.{Set}
use Rattle.inode_answers.specs.declared.answers.Set.TheVariants as set
use Rattle.inode_answers.specs.declared.answers.Taken.{Taken}
use Rattle.inode_answers.specs.declared.answers.Taken.TheVariants as taken
use Rattle.inode_answers.specs.declared.answers.Wrote.{Wrote}
use Rattle.inode_answers.specs.declared.answers.Wrote.TheVariants as wrote

abbrev pub counted_told : Counted → Told
counted_told (counted.Held place) = told.Held
counted_told counted.NotFound = told.NotFound
counted_told counted.TextBusy = told.TextBusy

-- a file that was counted is named by this place
abbrev pub IsPlaced : ℕ → Counted → Type 0
IsPlaced place (counted.Held at) = at ≡ place
IsPlaced place _ = Unit {0}

abbrev pub set_told : Set → Option Told
set_told set.Done = Some told.Done
set_told set.Blocked = None
set_told set.NotFound = Some told.NotFound
set_told set.EvmName = Some told.EvmName
set_told set.NotAdmin = Some told.NotAdmin
set_told set.TooLong = Some told.TooLong
set_told set.Invalid = Some told.Invalid
set_told set.NoData = Some told.NoData
set_told (set.Status status) = Some (told.Status status)

abbrev pub wrote_told : Wrote → Told
wrote_told wrote.Done = told.Done
wrote_told wrote.TooBig = told.TooBig

-- the call's result says how the change of the content ended
abbrev pub IsWrote : Result (Unit {0}) PageErr → Wrote → Type 0
IsWrote (Ok done) wrote.Done = Unit {0}
IsWrote (Ok done) wrote.TooBig = ⊥
IsWrote (Err page.TooBig) wrote.Done = ⊥
IsWrote (Err page.TooBig) wrote.TooBig = Unit {0}
IsWrote (Err page.OutOfMemory) w = ⊥

abbrev pub piece_told : Piece → Told
piece_told piece.More = told.More
piece_told piece.Last = told.Last

abbrev pub taken_told : Taken → Option Told
taken_told (taken.Begun algo) = Some told.Begun
taken_told (taken.Answer grant) = Some (told.Grant grant)
taken_told taken.Blocked = None

abbrev pub close_taken_told : CloseTaken → Option Told
close_taken_told (close_taken.Begun algo) = Some told.Begun
close_taken_told close_taken.Dropped = Some told.Dropped
close_taken_told close_taken.Blocked = None

abbrev pub found_told : Found → Told
found_told found.Quiet = told.Quiet
found_told (found.OpenWriters place) = told.OpenWriters place
found_told (found.ToMToU place) = told.ToMToU place

abbrev pub finished_told : Bool → Told
finished_told true = told.LabelledDropped
finished_told false = told.Dropped

-- a collection that begins hashes by this algorithm
abbrev pub BeginsBy : Algo → Taken → Type 0
BeginsBy algo (taken.Begun a) = a ≡ algo
BeginsBy algo _ = Unit {0}

abbrev pub CloseBeginsBy : Algo → CloseTaken → Type 0
CloseBeginsBy algo (close_taken.Begun a) = a ≡ algo
CloseBeginsBy algo _ = Unit {0}
