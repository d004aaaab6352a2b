-- The summary of writes, compared with the journal's definition.
use Rattle.std.specs.Prelude.{◌≡◌, ℕ, ◌<◌, Bool, false, nat_le, List, length, Option, Some, None}
use Rattle.inode_events.specs.State.{modified_in, span, modified_since}
use Rattle.inode_events.specs.declared.told.Event.{Event}
use Rattle.inode_state.specs.declared.writes.Writes.{Writes}

-- the last write is at the place or after it
abbrev pub reaches : ℕ → Option ℕ → Bool
reaches place None = false
reaches place (Some last) = nat_le place last

abbrev pub IsBelow : Option ℕ → ℕ → Type 0
IsBelow None end = Unit {0}
IsBelow (Some last) end = last < end

pub record AreWrites (p : List Event) (w : Writes) : Type 0 where
  pub since : (place : ℕ) → modified_since place p ≡ reaches place w.last
  pub below : IsBelow w.last (length p)
  pub in_span : w.in_span ≡ modified_in (span p)
