-- The concatenation of a message from its pieces.
use Rattle.std.proofs.Common.{◌≡◌, List, ℕ, ◌++◌, append_assoc}

-- feeding six pieces one after another is feeding their concatenation
pub six_fed : (m a b c d e f : List ℕ) → m ++ a ++ b ++ c ++ d ++ e ++ f ≡ m
    ++ (a ++ b ++ c ++ d ++ e ++ f)
six_fed m a b c d e f = simp append_assoc
