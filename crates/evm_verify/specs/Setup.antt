-- The part of a script's settings that EVM uses.
use Rattle.std.specs.Prelude.{ℕ, List, Option}

-- the key of the HMAC, if there is one, the names that were added to the protected ones, in that
-- order, and the format of the HMAC's message
pub record Setup : Type 0 where
  pub key : Option (List ℕ)
  pub added : List (List ℕ)
  pub format : ℕ
