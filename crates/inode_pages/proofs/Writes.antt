-- The parts of a content after a write.
use Rattle.std.proofs.Common.{◌≡◌, ℕ, zero, suc, ◌+◌, ◌-◌, ◌≤◌, List, [], ◌∷◌, ◌++◌, length, take, drop, refl, sym, ap, ◌∙◌, arith, min, max, length-append}
use Rattle.std.specs.Prelude.{replicate}
use Rattle.std.proofs.lemmas.List.{append-nil, drop_all, length-drop, length-replicate, length-take, take-append-drop}
use Rattle.inode_pages.specs.Content.{bytes_at, overwritten}

-- dropping elements of the empty list leaves it empty
drop-nil : (n : ℕ) → drop {A = ℕ} n [] ≡ []
drop-nil n = drop_all n [] (omega arith)

take-nil : (n : ℕ) → take {A = ℕ} n [] ≡ []
take-nil zero = refl
take-nil (suc n) = refl

-- a write into the empty content, and a write of no bytes at the start
pub written_alone : (bytes : List ℕ) → overwritten [] 0 bytes ≡ bytes
written_alone bytes = ap (λ (xs : List ℕ). bytes ++ xs) (drop-nil (0 + length bytes))
    ∙ append-nil bytes

-- a write at a later offset leaves the first byte, or makes it zero
written_later : (x : ℕ) (content : List ℕ) (from : ℕ) (bytes : List ℕ)
    → overwritten (x ∷ content) (suc from) bytes ≡ x ∷ overwritten content from bytes
written_later x content from bytes =
    let gap : suc from - suc (length content) ≡ from - length content = omega arith in
    let end : suc from + length bytes ≡ suc (from + length bytes) = omega arith in
    λ i. take (suc from) ((x ∷ content) ++ replicate (gap i) 0) ++ bytes
    ++ drop (end i) (x ∷ content)

written_gap : (from : ℕ) (bytes : List ℕ) → overwritten [] (suc from) bytes ≡ 0
    ∷ overwritten [] from bytes
written_gap from bytes =
    let gap : suc from - 0 ≡ suc from = omega arith in
    let less : from ≡ from - 0 = omega arith in
    let end : suc from + length bytes ≡ suc (from + length bytes) = omega arith in
    (λ i. take (suc from) (replicate (gap i) 0) ++ bytes ++ drop {A = ℕ} (end i) [])
    ∙ (λ i. 0 ∷ (take from (replicate (less i) 0) ++ bytes
    ++ (drop-nil (suc (from + length bytes)) ∙ sym (drop-nil (from + length bytes))) i))

-- a content that is written at the start begins with the write's first byte
written_first : (x y : ℕ) (content bytes : List ℕ) → overwritten (x ∷ content) 0 (y ∷ bytes) ≡ y
    ∷ overwritten content 0 bytes
written_first x y content bytes =
    let end : 0 + suc (length bytes) ≡ suc (0 + length bytes) = omega arith in
    λ i. y ∷ (bytes ++ drop (end i) (x ∷ content))

-- the bytes from an offset on, after a write
pub written-drop : (s : ℕ) (content : List ℕ) (from : ℕ) (bytes : List ℕ)
    → drop s (overwritten content from bytes)
    ≡ overwritten (drop s content) (from - s) (drop (s - from) bytes)
written-drop zero content from bytes =
    let at : from ≡ from - 0 = omega arith in
    let none : 0 ≡ 0 - from = omega arith in
    λ i. overwritten content (at i) (drop (none i) bytes)
written-drop (suc s) content zero [] =
    let at : 0 ≡ 0 - suc s = omega arith in
    (λ i. overwritten (drop (suc s) content) (at i) (sym (drop-nil (suc s - 0)) i))
written-drop (suc s) [] zero (y ∷ bytes) =
    let at : 0 - s ≡ 0 - suc s = omega arith in
    let past : s - 0 ≡ suc s - 0 - 1 = omega arith in
    ap (drop (suc s)) (written_alone (y ∷ bytes)) ∙ ap (drop s) (sym (written_alone bytes))
    ∙ written-drop s [] zero bytes
    ∙ (λ i. overwritten ((drop-nil s ∙ sym (drop-nil (suc s))) i) (at i)
    (drop (shift s i) (y ∷ bytes)))
  where
    shift : (s : ℕ) → suc (s - 0) ≡ suc s - 0
    shift s = omega arith
written-drop (suc s) (x ∷ content) zero (y ∷ bytes) =
    let at : 0 - s ≡ 0 - suc s = omega arith in
    let shift : suc (s - 0) ≡ suc s - 0 = omega arith in
    ap (drop (suc s)) (written_first x y content bytes) ∙ written-drop s content zero bytes
    ∙ (λ i. overwritten (drop s content) (at i) (drop (shift i) (y ∷ bytes)))
written-drop (suc s) [] (suc from) bytes =
    let at : from - s ≡ suc from - suc s = omega arith in
    let past : s - from ≡ suc s - suc from = omega arith in
    ap (drop (suc s)) (written_gap from bytes) ∙ written-drop s [] from bytes
    ∙ (λ i. overwritten ((drop-nil s ∙ sym (drop-nil (suc s))) i) (at i) (drop (past i) bytes))
written-drop (suc s) (x ∷ content) (suc from) bytes =
    let at : from - s ≡ suc from - suc s = omega arith in
    let past : s - from ≡ suc s - suc from = omega arith in
    ap (drop (suc s)) (written_later x content from bytes) ∙ written-drop s content from bytes
    ∙ (λ i. overwritten (drop s content) (at i) (drop (past i) bytes))

-- the first n bytes, after a write
pub written-take : (n : ℕ) (content : List ℕ) (from : ℕ) (bytes : List ℕ)
    → take n (overwritten content from bytes)
    ≡ overwritten (take n content) (min from n) (take (n - from) bytes)
written-take zero content from bytes =
    let at : 0 ≡ min from 0 = omega arith in
    let none : 0 ≡ 0 - from = omega arith in
    λ i. overwritten [] (at i) (take (none i) bytes)
written-take (suc n) content zero [] =
    let at : 0 ≡ min 0 (suc n) = omega arith in
    λ i. overwritten (take (suc n) content) (at i) (sym (take-nil (suc n - 0)) i)
written-take (suc n) [] zero (y ∷ bytes) =
    let at : 0 ≡ min 0 (suc n) = omega arith in
    let all : suc n ≡ suc n - 0 = omega arith in
    ap (take (suc n)) (written_alone (y ∷ bytes)) ∙ sym (written_alone (take (suc n) (y ∷ bytes)))
    ∙ (λ i. overwritten [] (at i) (take (all i) (y ∷ bytes)))
written-take (suc n) (x ∷ content) zero (y ∷ bytes) =
    let at : min 0 n ≡ min 0 (suc n) = omega arith in
    let start : min 0 n ≡ 0 = omega arith in
    let all : n - 0 ≡ n = omega arith in
    let more : suc n ≡ suc n - 0 = omega arith in
    ap (take (suc n)) (written_first x y content bytes)
    ∙ ap (λ (l : List ℕ). y ∷ l) (written-take n content zero bytes
    ∙ (λ i. overwritten (take n content) (start i) (take (all i) bytes)))
    ∙ sym (written_first x y (take n content) (take n bytes))
    ∙ (λ i. overwritten (x ∷ take n content) ((sym start ∙ at) i) (take (more i) (y ∷ bytes)))
written-take (suc n) [] (suc from) bytes =
    let at : suc (min from n) ≡ min (suc from) (suc n) = omega arith in
    let past : n - from ≡ suc n - suc from = omega arith in
    ap (take (suc n)) (written_gap from bytes)
    ∙ ap (λ (l : List ℕ). 0 ∷ l) (written-take n [] from bytes
    ∙ (λ i. overwritten (take-nil n i) (min from n) (take (past i) bytes)))
    ∙ sym (written_gap (min from n) (take (suc n - suc from) bytes))
    ∙ (λ i. overwritten [] (at i) (take (suc n - suc from) bytes))
written-take (suc n) (x ∷ content) (suc from) bytes =
    let at : suc (min from n) ≡ min (suc from) (suc n) = omega arith in
    let past : n - from ≡ suc n - suc from = omega arith in
    ap (take (suc n)) (written_later x content from bytes)
    ∙ ap (λ (l : List ℕ). x ∷ l) (written-take n content from bytes
    ∙ (λ i. overwritten (take n content) (min from n) (take (past i) bytes)))
    ∙ sym (written_later x (take n content) (min from n) (take (suc n - suc from) bytes))
    ∙ (λ i. overwritten (x ∷ take n content) (at i) (take (suc n - suc from) bytes))

-- The n bytes at an offset, after a write: the old ones, overwritten by the part of the write that
-- falls among them.
pub bytes_at-written : (content : List ℕ) (from : ℕ) (bytes : List ℕ) (s n : ℕ)
    → bytes_at (overwritten content from bytes) s n
    ≡ overwritten (bytes_at content s n) (min (from - s) n)
    (bytes_at bytes (s - from) (n - (from - s)))
bytes_at-written content from bytes s n =
    ap (take n) (written-drop s content from bytes)
    ∙ written-take n (drop s content) (from - s) (drop (s - from) bytes)

-- a write of no bytes within a content changes nothing
pub written_within : (content : List ℕ) (from : ℕ) → from ≤ length content
    → overwritten content from [] ≡ content
written_within content from within =
    let none : from - length content ≡ 0 = omega arith in
    let end : from + 0 ≡ from = omega arith in
    (λ i. take from (content ++ replicate (none i) 0) ++ [] ++ drop (end i) content)
    ∙ (λ i. append-nil (take from (content ++ replicate 0 0)) i ++ drop from content)
    ∙ (λ i. take from (append-nil content i) ++ drop from content)
    ∙ take-append-drop from content

-- a piece that ends before a write, or begins after it, doesn't change
pub piece_before : (content : List ℕ) (from : ℕ) (bytes : List ℕ) (s n : ℕ) → s + n ≤ from
    → s + n ≤ length content
    → bytes_at (overwritten content from bytes) s n ≡ bytes_at content s n
piece_before content from bytes s n before within =
    let at : min (from - s) n ≡ n = omega arith in
    let none : n - (from - s) ≡ 0 = omega arith in
    let full : n ≤ length (bytes_at content s n) =
    omega (arith, length-take n (drop s content), length-drop s content) in
    bytes_at-written content from bytes s n
    ∙ (λ i. overwritten (bytes_at content s n) (at i) (take (none i) (drop (s - from) bytes)))
    ∙ written_within (bytes_at content s n) n full

pub piece_after : (content : List ℕ) (from : ℕ) (bytes : List ℕ) (s n : ℕ)
    → from + length bytes ≤ s
    → bytes_at (overwritten content from bytes) s n ≡ bytes_at content s n
piece_after content from bytes s n after =
    let at : min (from - s) n ≡ 0 = omega arith in
    let none : drop (s - from) bytes ≡ [] = drop_all (s - from) bytes (omega arith) in
    bytes_at-written content from bytes s n
    ∙ (λ i. overwritten (bytes_at content s n) (at i) (take (n - (from - s)) (none i)))
    ∙ ap (overwritten (bytes_at content s n) 0) (take-nil (n - (from - s)))

-- the length of a content after a write
pub length-written : (content : List ℕ) (from : ℕ) (bytes : List ℕ)
    → length (overwritten content from bytes) ≡ max (length content) (from + length bytes)
length-written content from bytes =
    let zeros : length (replicate {A = ℕ} (from - length content) 0) ≡ from - length content =
    length-replicate (from - length content) 0 in
    let front = take from (content ++ replicate (from - length content) 0) in
    omega (
      arith,
      zeros,
      length-append (front ++ bytes) (drop (from + length bytes) content),
      length-append front bytes,
      length-take from (content ++ replicate (from - length content) 0),
      length-append content (replicate (from - length content) 0),
      length-drop (from + length bytes) content,
    )
