-- The pieces of a content that repeats one byte.
use Rattle.std.proofs.Common.{◌≡◌, ℕ, ◌-◌, ◌*◌, ◌<◌, ◌≤◌, ⊎_elim, List, length, take, Some, sym, ap, ◌∙◌, min, arith}
use Rattle.std.specs.Prelude.{replicate, slice_get}
use Rattle.std.specs.Int.{div_ceil}
use Rattle.std.specs.List.{concat}
use Rattle.std.proofs.lemmas.Bool.{cases_lt}
use Rattle.std.proofs.lemmas.Grind.{div_ceil_times}
use Rattle.std.proofs.lemmas.List.{drop-replicate, length-replicate, take-replicate, take_all}
use Rattle.inode_pages.specs.Content.{piece_at, most_bytes}
use Rattle.inode_pages.specs.Pages.{IsPaged}
use Rattle.inode_pages.proofs.Paging.{paged}

-- the first `most` of n copies of one element
take-replicate_min : (most n x : ℕ) → take most (replicate n x) ≡ replicate (min n most) x
take-replicate_min most n x =
    ⊎_elim
    (λ (short : n < most).
    let all : n ≡ min n most = omega arith in
    take_all most (replicate n x) (omega (arith, length-replicate n x))
    ∙ ap (λ m. replicate m x) all)
    (λ (long : most ≤ n).
    let enough : most ≡ min n most = omega arith in
    take-replicate most n x long ∙ ap (λ m. replicate m x) enough)
    (cases_lt n most)

-- each piece repeats the byte, as often as the count leaves for it
piece_of_filled : (count byte k : ℕ)
    → piece_at (replicate count byte) k ≡ replicate (min (count - 4096 * k) 4096) byte
piece_of_filled count byte k = ap (take 4096) (drop-replicate (4096 * k) count byte)
    ∙ take-replicate_min 4096 (count - 4096 * k) byte

-- a page with as many copies of the byte as the piece has is that piece
pub filled_piece : (page : List ℕ) (count byte k len : ℕ)
    → page ≡ replicate len byte → len ≡ min (count - 4096 * k) 4096
    → page ≡ piece_at (replicate count byte) k
filled_piece page count byte k len is size = is ∙ ap (λ n. replicate n byte) size
    ∙ sym (piece_of_filled count byte k)

-- the first page serves for each piece of the same length
pub first_again : (page first : List ℕ) (count byte k len : ℕ)
    → page ≡ first → first ≡ replicate (min count 4096) byte → len ≡ length first
    → len ≡ min (count - 4096 * k) 4096
    → page ≡ piece_at (replicate count byte) k
first_again page first count byte k len is first_is full size =
    filled_piece page count byte k (min count 4096) (is ∙ first_is)
    (sym (full ∙ ap length first_is ∙ length-replicate (min count 4096) byte) ∙ size)

-- the pages that are pieces of the content are all its pages
pub paged_filled : (pages : List (List ℕ)) (count byte : ℕ) → count ≤ most_bytes
    → length pages ≡ div_ceil count 4096
    → ((k : ℕ) → k < length pages → slice_get pages k ≡ Some (piece_at (replicate count byte) k))
    → IsPaged pages × (concat pages ≡ replicate count byte)
paged_filled pages count byte small number each =
    let ceil = div_ceil_times count 4096 (omega arith) in
    let long = length-replicate count byte in
    paged (replicate count byte) pages
    (record {
      enough = omega (arith, long, number, ceil.0, ceil.1);
      needed = omega (arith, long, number, ceil.0, ceil.1);
      each = each;
    })
    (omega (arith, long, small))
