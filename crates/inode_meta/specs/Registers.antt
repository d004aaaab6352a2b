-- The register of measurements.
use Rattle.std.specs.Prelude.{ℕ}

-- the register that measurements extend if no rule names another, and that violations extend
abbrev pub default_pcr : ℕ
default_pcr = 10
