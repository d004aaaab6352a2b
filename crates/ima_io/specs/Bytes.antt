-- The bytes that a source gave and a sink took in a call.
use Rattle.std.specs.Prelude.{ℕ, ◌<◌, List, length, take, Option}
use Rattle.std.specs.Io.KnownBytes.{Appends, Consumes}

-- A source that had `old` left and has `new` left gave bytes with this property. If contracts know
-- the source's bytes, these are the ones by which they shrank. If not, as for a stream of the
-- system, this only says that there are such bytes.
abbrev pub Gave : Option (List ℕ) → Option (List ℕ) → (List ℕ → Type 0) → Type 0
Gave old new P = (given : List ℕ) × Consumes old new given × P given

-- a sink took a proper prefix of the piece
abbrev pub TookPart : Option (List ℕ) → Option (List ℕ) → List ℕ → Type 0
TookPart old new piece = (n : ℕ) × (n < length piece) × Appends old new (take n piece)
