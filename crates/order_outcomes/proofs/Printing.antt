-- The pieces of an outcome, as the code appends them.
use Rattle.std.proofs.Common.{◌≡◌, List, ◌++◌, append_assoc, ℕ}

-- three, four and six pieces after what stands
pub three : (o a b c : List ℕ) → ((o ++ a) ++ b) ++ c ≡ o ++ (a ++ b ++ c)
three o a b c = simp append_assoc

pub four : (o a b c d : List ℕ) → (((o ++ a) ++ b) ++ c) ++ d ≡ o ++ (a ++ b ++ c ++ d)
four o a b c d = simp append_assoc

pub six : (o a b c d e f : List ℕ)
    → (((((o ++ a) ++ b) ++ c) ++ d) ++ e) ++ f ≡ o ++ (a ++ b ++ c ++ d ++ e ++ f)
six o a b c d e f = simp append_assoc
