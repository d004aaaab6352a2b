-- The command `gen`: the summary of the run of a generated script. It reads nothing, and no input
-- is refused.
use Rattle.std.specs.Prelude.{ℕ, List}
use Rattle.ima_top.specs.Summarized.{IsSummary}

-- the output for a number is the summary of its script's run
unfoldable pub IsGenOutput : ℕ → List ℕ → Type 0
IsGenOutput number output = IsSummary number output
