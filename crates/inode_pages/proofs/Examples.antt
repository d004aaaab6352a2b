-- Contents of a few bytes, computed.
use Rattle.std.proofs.Common.{◌≡◌, [], ◌∷◌, ◌++◌, true, false, refl}
use Rattle.std.specs.Prelude.{replicate}
use Rattle.inode_pages.specs.Content.{bytes_at, is_last_piece, overwritten, piece_at, resized}

-- bytes that were cut off don't come back when the content is extended
cut_and_lengthened : resized (resized (97 ∷ 98 ∷ 99 ∷ []) 1) 3 ≡ 97 ∷ 0 ∷ 0 ∷ []
cut_and_lengthened = refl

-- a write inside the content, across its end, and after a gap
written_inside : overwritten (97 ∷ 98 ∷ 99 ∷ []) 1 (120 ∷ []) ≡ 97 ∷ 120 ∷ 99 ∷ []
written_inside = refl

written_across : overwritten (97 ∷ 98 ∷ 99 ∷ []) 2 (120 ∷ 121 ∷ []) ≡ 97 ∷ 98 ∷ 120 ∷ 121 ∷ []
written_across = refl

written_after : overwritten (97 ∷ 98 ∷ 99 ∷ []) 4 (120 ∷ []) ≡ 97 ∷ 98 ∷ 99 ∷ 0 ∷ 120 ∷ []
written_after = refl

-- a read that extends past the end
read_past : bytes_at (97 ∷ 98 ∷ 99 ∷ []) 1 9 ≡ 98 ∷ 99 ∷ []
read_past = refl

-- the second piece of a content of 4,097 bytes has one byte, and is the last
second_piece : piece_at (replicate 4096 97 ++ 98 ∷ []) 1 ≡ 98 ∷ []
second_piece = refl

not_the_last : is_last_piece (replicate 4097 97) 0 ≡ false
not_the_last = refl

the_last : is_last_piece (replicate 4096 97) 0 ≡ true
the_last = refl
