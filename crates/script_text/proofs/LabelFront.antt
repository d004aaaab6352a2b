-- The first bytes of an array in which a label was written.
use Rattle.std.proofs.Common.{◌≡◌, ℕ, ◌-◌, List, ◌++◌, length, take, arith}
use Rattle.std.proofs.Math.Seq.{take-append_seam}

pub shown : (out label rest : List ℕ) (len : ℕ) → out ≡ label ++ rest → len ≡ length label
    → take len out ≡ label
shown out label rest len o l = rw (o, l) (take-append_seam label rest)

pub shown_from_start : (out label rest : List ℕ) (len : ℕ) → out ≡ label ++ rest → len
    ≡ length label → take (len - 0) out ≡ label
shown_from_start out label rest len o l = let same : len - 0 ≡ len =
    omega arith in rw same
    (shown out label rest len o l)
