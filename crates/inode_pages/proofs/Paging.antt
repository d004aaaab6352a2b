-- The relation between a content and its pages.
use Rattle.std.proofs.Common.{◌≡◌, ℕ, zero, suc, ◌+◌, ◌-◌, ◌*◌, ◌/◌, ◌%◌, ◌<◌, ◌≤◌, List, [], ◌∷◌, ◌++◌, length, take, drop, Some, refl, sym, ap, ◌∙◌, subst, arith}
use Rattle.std.specs.Prelude.{slice_get}
use Rattle.std.specs.List.{concat}
use Rattle.std.proofs.Math.ListN.{set}
use Rattle.std.proofs.lemmas.List.{length-drop, length-take, drop-drop, drop-take, take_all, take-append-drop, nil_from_length}
use Rattle.std.proofs.lemmas.Option.{same_Some, slice_get_within}
use Rattle.inode_pages.specs.Content.{bytes_at, piece_bytes, piece_at, most_bytes}
use Rattle.inode_pages.specs.Pages.{ArePagesOf, IsPaged}

-- the pieces after the first are those of the content without its first piece
piece_at-rest : (content : List ℕ) (k : ℕ) → piece_at content (suc k)
    ≡ piece_at (drop piece_bytes content) k
piece_at-rest content k =
    let place : 4096 * suc k ≡ 4096 + 4096 * k = omega arith in
    ap (λ (n : ℕ). take 4096 (drop n content)) place
    ∙ ap (take 4096) (sym (drop-drop (4096 * k) 4096 content))

-- a content is the concatenation of its pages
pub concat_pages : (content : List ℕ) (pages : List (List ℕ)) → ArePagesOf content pages
    → concat pages ≡ content
concat_pages content [] are = sym (nil_from_length content (omega (arith, are.enough)))
concat_pages content (page ∷ pages) are =
    let first : page ≡ take 4096 content =
    same_Some page (piece_at content 0) (are.each 0 (omega arith)) in
    let rest = concat_pages (drop 4096 content) pages (record {
      enough = omega (arith, are.enough, length-drop 4096 content);
      needed = omega (arith, are.needed, length-drop 4096 content);
      each = λ k below. are.each (suc k) (omega arith) ∙ ap Some (piece_at-rest content k);
    }) in
    (λ i. first i ++ rest i) ∙ take-append-drop 4096 content

-- the length of a content, by the length of its last page
pub length_by_last : (content : List ℕ) (pages : List (List ℕ)) (last : List ℕ)
    → ArePagesOf content pages → slice_get pages (length pages - 1) ≡ Some last
    → (length pages - 1) * 4096 + length last ≡ length content
length_by_last content pages last are at =
    let some : 0 < length pages = omega (arith, slice_get_within pages (length pages - 1) last at)
    in
    let is : last ≡ piece_at content (length pages - 1) =
    same_Some last (piece_at content (length pages - 1))
    (sym at ∙ are.each (length pages - 1) (omega arith)) in
    omega (
      arith,
      ap length is,
      length-take 4096 (drop (4096 * (length pages - 1)) content),
      length-drop (4096 * (length pages - 1)) content,
      are.enough,
      are.needed,
    )

-- a list with one element replaced, as the parts before and after it
pub set_parts : {X : Type 0} (xs : List X) (k : ℕ) (y : X) → k < length xs → set xs k y ≡ take k xs
    ++ y ∷ drop (k + 1) xs
set_parts [] k y within = absurd (omega arith)
set_parts (x ∷ xs) zero y within = refl
set_parts {X = X} (x ∷ xs) (suc k) y within =
    let after : suc (k + 1) ≡ suc k + 1 = omega arith in
    ap (λ (l : List X). x ∷ l) (set_parts xs k y (omega arith))
    ∙ ap (λ (n : ℕ). x ∷ (take k xs ++ y ∷ drop n (x ∷ xs))) after

-- the part of a piece from an offset in it on
pub rest_of_piece : (content : List ℕ) (at : ℕ)
    → bytes_at (piece_at content (at / 4096)) (at % 4096) (4096 - at % 4096)
    ≡ bytes_at content at (4096 - at % 4096)
rest_of_piece content at =
    let r = at % 4096 in
    let all : r + (4096 - r) ≡ 4096 = omega arith in
    let place : 4096 * (at / 4096) + r ≡ at = omega arith in
    ap (λ n. take (4096 - r) (drop r (take n (drop (4096 * (at / 4096)) content)))) (sym all)
    ∙ ap (take (4096 - r)) (drop-take r (4096 - r) (drop (4096 * (at / 4096)) content))
    ∙ take_all (4096 - r) (take (4096 - r) (drop r (drop (4096 * (at / 4096)) content)))
    (omega (arith, length-take (4096 - r) (drop r (drop (4096 * (at / 4096)) content))))
    ∙ ap (take (4096 - r)) (drop-drop r (4096 * (at / 4096)) content
    ∙ ap (λ n. drop n content) place)

-- pages of a content satisfy the invariant of kept pages, and their concatenation is the content
pub paged : (content : List ℕ) (pages : List (List ℕ)) → ArePagesOf content pages
    → length content ≤ most_bytes → IsPaged pages × (concat pages ≡ content)
paged content pages are small =
    let whole = concat_pages content pages are in (
      record {
        pages_are = subst (λ (c : List ℕ). ArePagesOf c pages) (sym whole) are;
        small =
            omega (arith, ap length whole, small);
      },
      whole,
    )
