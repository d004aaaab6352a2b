-- The bytes of a file: the effects of a write and of a truncation, and the pieces in which a
-- collection hashes them.
use Rattle.std.specs.Prelude.{ℕ, ◌+◌, ◌-◌, ◌*◌, Bool, nat_le, List, ◌++◌, length, take, drop, replicate}

-- the most bytes that a file may have
abbrev pub most_bytes : ℕ
most_bytes = 262144

-- the size of a piece in bytes; only the last one may be shorter
abbrev pub piece_bytes : ℕ
piece_bytes = 4096

-- the content, extended by zeros if it is shorter than this
abbrev pub with_zeros_to : ℕ → List ℕ → List ℕ
with_zeros_to place content = content ++ replicate (place - length content) 0

-- the content after a write at an offset: a gap before the new bytes is filled with zeros
abbrev pub overwritten : List ℕ → ℕ → List ℕ → List ℕ
overwritten content from bytes =
    take from (with_zeros_to from content) ++ bytes ++ drop (from + length bytes) content

-- the content after a truncation to a length, which may also extend it by zeros
abbrev pub resized : List ℕ → ℕ → List ℕ
resized content len = take len (with_zeros_to len content)

-- the bytes that a read returns: at most `len` of them, from an offset on
abbrev pub bytes_at : List ℕ → ℕ → ℕ → List ℕ
bytes_at content from len = take len (drop from content)

-- the k-th piece, counted from 0
abbrev pub piece_at : List ℕ → ℕ → List ℕ
piece_at content k = bytes_at content (piece_bytes * k) piece_bytes

-- no byte follows the k-th piece
abbrev pub is_last_piece : List ℕ → ℕ → Bool
is_last_piece content k = nat_le (length content) (piece_bytes * (k + 1))
