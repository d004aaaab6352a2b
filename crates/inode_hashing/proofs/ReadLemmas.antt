-- Hashing a read page by page.
use Rattle.std.proofs.Common.{◌≡◌, ℕ, ◌+◌, ◌-◌, ◌≤◌, List, [], ◌++◌, length, take, drop, ap, ◌∙◌, arith, append-nil}
use Rattle.std.specs.Prelude.{min}
use Rattle.std.proofs.Math.ListN.{drop_of_length-le}
use Rattle.std.proofs.Math.Seq.{take-add}
use Rattle.std.proofs.lemmas.List.{drop-drop, length-drop, length-take}
use Rattle.inode_pages.specs.Content.{bytes_at}

-- the first n + m bytes from a place are the first n followed by the next m
pub bytes_at-add : (content : List ℕ) (from n m : ℕ) → bytes_at content from (n + m)
    ≡ bytes_at content from n ++ bytes_at content (from + n) m
bytes_at-add content from n m = take-add n m (drop from content)
    ∙ ap (λ l. take n (drop from content) ++ take m l) (drop-drop n from content)

-- the number of bytes that are there
pub length-bytes_at : (content : List ℕ) (from n : ℕ)
    → length (bytes_at content from n) ≡ min n (length content - from)
length-bytes_at content from n = length-take n (drop from content)
    ∙ ap (min n) (length-drop from content)

-- a buffer is filled to its end if the content reaches that far
pub part_filled : (content old new : List ℕ) (from room count : ℕ) → length old ≡ room
    → new ≡ bytes_at content from (length old) ++ drop count old
    → count ≡ length (bytes_at content from (length old)) → from + room ≤ length content
    → new ≡ bytes_at content from room
part_filled content old new from room count fits is counts within =
    let all : drop count old ≡ [] = drop_of_length-le old (omega (
      arith,
      counts,
      fits,
      within,
      length-bytes_at content from (length old),
    )) in
    is ∙ (λ i. bytes_at content from (fits i) ++ all i) ∙ append-nil (bytes_at content from room)
