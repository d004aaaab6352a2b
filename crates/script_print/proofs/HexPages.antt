-- The hexadecimal text of a content, page by page.
use Rattle.std.proofs.Common.{◌≡◌, ℕ, ◌+◌, ◌/◌, ◌%◌, ◌<◌, List, [], ◌∷◌, ◌++◌, get_or, length, take, refl, sym, ap, ◌∙◌, append_assoc}
use Rattle.std.specs.Prelude.{slice_index}
use Rattle.std.specs.List.{concat}
use Rattle.hex.specs.Hex.{encode_lower, encode_with, lower_digits}
use Rattle.inode_events.proofs.about_pages.Walking.{concat_more}

-- the digits of two byte strings in a row are the digits of each in a row
encode_lower-append : (xs ys : List ℕ) → encode_lower (xs ++ ys)
    ≡ encode_lower xs ++ encode_lower ys
unfolding encode_with
encode_lower-append [] ys = refl
encode_lower-append (x ∷ xs) ys =
    ap (λ (l : List ℕ). slice_index lower_digits (x / 16) ∷ slice_index lower_digits (x % 16) ∷ l)
    (encode_lower-append xs ys)

-- the digits so far with those of one more page
pub digits_more : (out start key page : List ℕ) (pages : List (List ℕ)) (i : ℕ)
    → i < length pages → page ≡ get_or pages i page
    → out ≡ start ++ (key ++ encode_lower (concat (take i pages)))
    → out ++ encode_lower page
    ≡ start ++ (key ++ encode_lower (concat (take (i + 1) pages)))
digits_more out start key page pages i below is so_far =
    let done = encode_lower (concat (take i pages)) in
    ap (λ (l : List ℕ). l ++ encode_lower page) so_far
    ∙ append_assoc start (key ++ done) (encode_lower page)
    ∙ ap (λ (l : List ℕ). start ++ l) (append_assoc key done (encode_lower page))
    ∙ ap (λ (l : List ℕ). start ++ (key ++ l))
    (sym (encode_lower-append (concat (take i pages)) page)
    ∙ ap encode_lower (sym (concat_more pages i page below is)))
