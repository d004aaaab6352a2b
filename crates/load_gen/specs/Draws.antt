-- The generator of pseudorandom numbers. Its state is a number below 2^64.
use Rattle.std.specs.Prelude.{ℕ, ◌+◌, ◌*◌, ◌/◌, ◌%◌, ◌^◌}

-- one step of the state
abbrev pub next : ℕ → ℕ
next x = (x * 6364136223846793005 + 1442695040888963407) % 2 ^ 64

-- the number below k that the generator draws from a state
abbrev pub drawn : ℕ → ℕ → ℕ
drawn k x = x / 2 ^ 33 % k
