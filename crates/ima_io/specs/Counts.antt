-- The counts of faults and of calls.
use Rattle.std.specs.Prelude.{◌≡◌, ℕ, ◌+◌, ◌-◌, ◌^◌, ◌<◌, ◌⊎◌, min}

-- the greatest value of a 64-bit counter
abbrev pub last_count : ℕ
last_count = 2 ^ 64 - 1

-- the count after one more, saturating at the greatest value
abbrev pub counted_on : ℕ → ℕ
counted_on n = min (n + 1) last_count

-- the count rose, or has reached the greatest value
abbrev pub Rose : ℕ → ℕ → Type 0
Rose before now = (before < now) ⊎ (now ≡ last_count)
