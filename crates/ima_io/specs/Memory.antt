-- The source and the sink in memory, as contracts see them.
use Rattle.std.specs.Prelude.{◌==◌, ℕ, Bool, List}
use Rattle.std.specs.List.{list_any}

-- A source in memory: the bytes it has left, the most bytes that one call gives, the numbers of the
-- calls that fail, the number of the next call, and its count of faults.
pub record Feed : Type 0 where
  pub left : List ℕ
  pub piece : ℕ
  pub fails : List ℕ
  pub call : ℕ
  pub faults : ℕ

-- A sink in memory: the bytes it took, the most bytes that it takes in all and in one call, the
-- numbers of the calls that fail, the number of the next call, and its count of faults.
pub record Store : Type 0 where
  pub taken : List ℕ
  pub room : ℕ
  pub piece : ℕ
  pub fails : List ℕ
  pub call : ℕ
  pub faults : ℕ

-- the call with this number is one of those that fail
abbrev pub fails_at : List ℕ → ℕ → Bool
fails_at fails call = list_any (λ n. n == call) fails
