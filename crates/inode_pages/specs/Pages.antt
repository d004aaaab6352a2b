-- The representation of a content as pages.
use Rattle.std.specs.Prelude.{◌≡◌, ℕ, ◌+◌, ◌*◌, ◌<◌, ◌≤◌, List, length, Some, slice_get}
use Rattle.std.specs.List.{concat}
use Rattle.inode_pages.specs.Content.{piece_bytes, most_bytes, piece_at}

-- the pages are the pieces of the content, in order, and none is empty
pub record ArePagesOf (content : List ℕ) (pages : List (List ℕ)) : Type 0 where
  pub enough : length content ≤ piece_bytes * length pages
  pub needed : piece_bytes * length pages < length content + piece_bytes
  pub each : (k : ℕ) → k < length pages → slice_get pages k ≡ Some (piece_at content k)

-- the pages are those of some content
pub record IsPaged (pages : List (List ℕ)) : Type 0 where
  pub pages_are : ArePagesOf (concat pages) pages
  pub small : length (concat pages) ≤ most_bytes
