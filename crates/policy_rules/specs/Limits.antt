-- The limit on policies.
use Rattle.std.specs.Prelude.{ℕ}

-- the most rules that a policy may have
abbrev pub most_rules : ℕ
most_rules = 1024
