-- What is cut off at the front is what was written there.
use Rattle.std.proofs.Common.{◌≡◌, ℕ, ◌+◌, ◌-◌, ◌^◌, ◌<◌, ◌≤◌, Bool, true, false, not, cond, List, [], ◌∷◌, ◌++◌, length, take, drop, Option, Some, None, refl, sym, ap, ◌∙◌, arith, append_assoc, length-append, leb, le-leb, leb-true, ltb, ltb-false, length-drop, get_or, add-zero}
use Rattle.std.proofs.lemmas.List.{drop_at, take_at, length-take-le, get_or-drop, take-append-drop, take_rest}
use Rattle.std.proofs.lemmas.List.Folds.{length-prefix_len}
use Rattle.std.proofs.lemmas.List.Sums.{passes_at_first, prefix_len-le-length}
use Rattle.std.proofs.lemmas.Nat.{le_bytes_4, le_bytes_8}
use Rattle.std.proofs.lemmas.Option.{cond_some}
use Rattle.std.specs.List.{before_first, position, position_or_len}
use Rattle.std.specs.Option.{unwrap_or}
use Rattle.byteorder.specs.Endian.{little_bytes, little_number}
use Rattle.byteorder.specs.Numbers.{little_from-append, little_number-reads_back}
use Rattle.ima_templates.specs.Data.{sized}
use Rattle.carry_form.specs.Cut.{◌>>=◌, cut_at, from_first, sized_in}
use Rattle.carry_form.proofs.Steps.{IsBytes, IsBytes-front, IsBytes-same, steps}

-- ---- numbers

-- the four bytes of the number that they are
pub little_bytes-number_4 : (bytes : List ℕ) → length bytes ≡ 4 → IsBytes bytes
    → little_bytes 4 (little_number 4 bytes) ≡ bytes
little_bytes-number_4 bytes long small =
    le_bytes_4 bytes (little_number 4 bytes) long small (omega arith)

-- the eight bytes of the number that they are
pub little_bytes-number_8 : (bytes : List ℕ) → length bytes ≡ 8 → IsBytes bytes
    → little_bytes 8 (little_number 8 bytes) ≡ bytes
little_bytes-number_8 bytes long small =
    le_bytes_8 bytes (little_number 8 bytes) long small (omega arith)

-- the four bytes of the number that a list begins with
pub little_bytes-front_4 : (bytes rest : List ℕ) → length bytes ≡ 4 → IsBytes bytes
    → little_bytes 4 (little_number 4 (bytes ++ rest)) ≡ bytes
little_bytes-front_4 bytes rest long small =
    ap (little_bytes 4) (little_from-append 4 bytes rest (omega (arith, long)))
    ∙ little_bytes-number_4 bytes long small

-- the eight bytes of the number that a list begins with
pub little_bytes-front_8 : (bytes rest : List ℕ) → length bytes ≡ 8 → IsBytes bytes
    → little_bytes 8 (little_number 8 (bytes ++ rest)) ≡ bytes
little_bytes-front_8 bytes rest long small =
    ap (little_bytes 8) (little_from-append 8 bytes rest (omega (arith, long)))
    ∙ little_bytes-number_8 bytes long small

-- a number of `size` bytes that begins at a place is within bytes that are as many as it needs
module _ (place size least : ℕ) (bytes : List ℕ) (long : least ≤ length bytes)
    (ends : leb (place + size) least ≡ true) where
  pub number-within : place ≤ length bytes
  number-within = omega (arith, leb-true (place + size) least ends, long)

  pub number-read : size ≤ length (take (length bytes - place) (drop place bytes))
  number-read =
      rw (take_rest bytes place)
      (omega (arith, leb-true (place + size) least ends, long, length-drop place bytes))

-- ---- the first bytes

-- what was written first is cut off
pub cut_at-append : (n : ℕ) (x rest : List ℕ) → length x ≡ n → cut_at n (x ++ rest)
    ≡ Some (x, rest)
cut_at-append n x rest is =
    let long : leb n (length (x ++ rest)) ≡ true =
    le-leb n (length (x ++ rest)) (omega (arith, length-append x rest, is)) in
    ap (λ (b : Bool). cond b (Some (take n (x ++ rest), drop n (x ++ rest))) None) long
    ∙ (λ i. Some (take_at x rest n is i, drop_at x rest n is i))

-- the bytes are those that were cut off and the others
pub cut_at-parts : (n : ℕ) (bytes : List ℕ) (p : List ℕ × List ℕ) → cut_at n bytes ≡ Some p
    → (length p.0 ≡ n) × (bytes ≡ p.0 ++ p.1)
cut_at-parts n bytes p is =
    let found = cond_some (leb n (length bytes)) (take n bytes, drop n bytes) p is in
    let within : n ≤ length bytes = leb-true n (length bytes) found.0 in
    let first : take n bytes ≡ p.0 = ap (λ (q : List ℕ × List ℕ). q.0) found.1 in
    let others : drop n bytes ≡ p.1 = ap (λ (q : List ℕ × List ℕ). q.1) found.1 in (
      sym (ap length first) ∙ length-take-le n bytes within,
      sym (take-append-drop n bytes) ∙ (λ i. first i ++ others i),
    )

-- ---- bytes after their length

-- what was written after its length is read
pub sized_in-append : (x rest : List ℕ) → length x < 2 ^ 32 → sized_in (sized x ++ rest)
    ≡ Some (x, rest)
unfolding sized
sized_in-append x rest fits =
    ap (λ (o : Option (List ℕ × List ℕ)). o >>= λ p. cut_at (little_number 4 p.0) p.1)
    (cut_at-append 4 (little_bytes 4 (length x)) (x ++ rest) refl)
    ∙ ap (λ (n : ℕ). cut_at n (x ++ rest)) (little_number-reads_back 4 (length x) [] fits)
    ∙ cut_at-append (length x) x rest refl

-- what is read was written after its length
pub sized_in-parts : (bytes : List ℕ) (p : List ℕ × List ℕ) → IsBytes bytes
    → sized_in bytes ≡ Some p → bytes ≡ sized p.0 ++ p.1
unfolding sized
sized_in-parts bytes p small is =
    let s = steps (λ (q : List ℕ × List ℕ). cut_at (little_number 4 q.0) q.1) (cut_at 4 bytes) p
    is in
    let head = cut_at-parts 4 bytes s.0 s.1 in
    let tail = cut_at-parts (little_number 4 s.0.0) s.0.1 p s.2 in
    let number : little_bytes 4 (length p.0) ≡ s.0.0 =
    ap (little_bytes 4) tail.0
    ∙ little_bytes-number_4 s.0.0 head.0
    (IsBytes-front s.0.0 s.0.1 (IsBytes-same bytes (s.0.0 ++ s.0.1) head.1 small)) in
    head.1 ∙ (λ i. sym number i ++ tail.1 i)
    ∙ sym (append_assoc (little_bytes 4 (length p.0)) p.0 p.1)

-- ---- the first byte that passes a test

module _ (p : ℕ → Bool) (bytes : List ℕ) where
  -- the place of the first byte that passes, or the length
  pub place_or_length : (place : Option ℕ) → place ≡ position p bytes
      → unwrap_or place (length bytes) ≡ position_or_len p bytes
  place_or_length place is =
      ap (λ (o : Option ℕ). unwrap_or o (length bytes)) is
      ∙ at (ltb (position_or_len p bytes) (length bytes)) refl where
        at : (b : Bool) → ltb (position_or_len p bytes) (length bytes) ≡ b
            → unwrap_or (cond b (Some (position_or_len p bytes)) None) (length bytes)
            ≡ position_or_len p bytes
        at true less = refl
        at false least =
            omega (
              arith,
              ltb-false (position_or_len p bytes) (length bytes) least,
              prefix_len-le-length (λ (b : ℕ). not (p b)) bytes,
            )

  -- that place is within the bytes or at their end
  pub place-le : (n : ℕ) → n ≡ position_or_len p bytes → n ≤ length bytes
  place-le n is = omega (arith, is, prefix_len-le-length (λ (b : ℕ). not (p b)) bytes)

  -- the bytes are those before the place and those from it on
  pub split-first : before_first p bytes ++ from_first p bytes ≡ bytes
  split-first = take-append-drop (position_or_len p bytes) bytes

  -- the number of bytes before the place
  pub length-before_first : length (before_first p bytes) ≡ position_or_len p bytes
  length-before_first = length-prefix_len (λ (b : ℕ). not (p b)) bytes

  -- the first of the bytes from the place on passes
  pub first-passes : (x : ℕ) (rest : List ℕ) → from_first p bytes ≡ x ∷ rest → p x ≡ true
  first-passes x rest is =
      let within : position_or_len p bytes < length bytes =
      omega (arith, ap length is, length-drop (position_or_len p bytes) bytes) in
      let here : get_or bytes (position_or_len p bytes) 0 ≡ x =
      ap (λ (n : ℕ). get_or bytes n 0) (sym (add-zero (position_or_len p bytes)))
      ∙ sym (get_or-drop (position_or_len p bytes) bytes 0 0)
      ∙ ap (λ (l : List ℕ). get_or l 0 0) is in
      ap p (sym here) ∙ passes_at_first p bytes 0 within
