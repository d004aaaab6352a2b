-- Cutting a list before the first element that passes a test, and a line at its blanks.
use Rattle.std.proofs.Common.{◌≡◌, ◌≢◌, ℕ, zero, suc, ◌+◌, Bool, true, not, List, [], ◌∷◌, ◌++◌, length, take, drop, refl, sym, ap, ◌∙◌, inl, inr, one-add, unwrap_or, arith}
use Rattle.std.specs.List.{slice_split, filter, list_all, position_or_len, position}
use Rattle.std.proofs.lemmas.Bool.{cases_Bool, false≢true}
use Rattle.std.proofs.lemmas.Bool.Decides.{nat_tests}
use Rattle.std.proofs.lemmas.List.{take-append-drop}
use Rattle.std.proofs.lemmas.List.Sums.{prefix_len-le-length}
use Rattle.text_forms.specs.Tokens.{is_blank, is_inked, is_filled, tokens}

-- whether the list is empty or begins with an element that passes
abbrev pub begins : {X : Type 0} → (X → Bool) → List X → Bool
begins p [] = true
begins p (x ∷ xs) = p x

module _ {X : Type 0} (p : X → Bool) where
  -- no element before the cut passes
  pub before_cut : (xs : List X) → list_all (λ x. not (p x)) (take (position_or_len p xs) xs) ≡ true
  before_cut [] = refl
  before_cut (x ∷ xs) = elim (cases_Bool (p x)) [
    | inl e ↦ rw e refl
    | inr e ↦ rw (e, one-add, e) (before_cut xs)
  ]

  pub after_cut : (xs : List X) → begins p (drop (position_or_len p xs) xs) ≡ true
  after_cut [] = refl
  after_cut (x ∷ xs) = elim (cases_Bool (p x)) [
    | inl e ↦ rw (e, e) refl
    | inr e ↦ rw (e, one-add) (after_cut xs)
  ]

  -- the index that `position` returns, or else the length
  pub place_is : (xs : List X) → unwrap_or (position p xs) (length xs) ≡ position_or_len p xs
  place_is xs = let le = prefix_len-le-length (λ x. not (p x)) xs in grind (arith, nat_tests)

  -- a part without separators is the first part, if a separator follows it or nothing does
  pub part : (w rest : List X) → list_all (λ x. not (p x)) w ≡ true → begins p rest ≡ true
      → slice_split p (w ++ rest) ≡ w ∷ drop 1 (slice_split p rest)
  part [] [] h b = refl
  part [] (x ∷ xs) h b = rw b refl
  part (x ∷ w) rest h b = elim (cases_Bool (p x)) [
    | inl e ↦ absurd (false≢true (rw e at h))
    | inr e ↦ rw (e, part w rest (rw e at h) b) refl
  ]

-- leading blanks don't affect the tokens
pub blanks_off : (line : List ℕ) → tokens (drop (position_or_len is_inked line) line) ≡ tokens line
blanks_off [] = refl
blanks_off (b ∷ bs) = elim (cases_Bool (is_blank b)) [
  | inl e ↦ rw (e, one-add) (blanks_off bs)
  | inr e ↦ rw (e, e) refl
]

rest_of : (rest : List ℕ) → begins is_blank rest ≡ true
    → filter is_filled (drop 1 (slice_split is_blank rest)) ≡ tokens rest
rest_of [] b = refl
rest_of (x ∷ xs) b = rw b refl

-- a word without blanks is the first token, if a blank follows it or nothing does
pub tokens-word : (c : ℕ) (w rest : List ℕ) → list_all is_inked (c ∷ w) ≡ true
    → begins is_blank rest ≡ true → tokens ((c ∷ w) ++ rest) ≡ (c ∷ w) ∷ tokens rest
tokens-word c w rest h b =
    rw (part is_blank (c ∷ w) rest h b) (ap (λ (ts : List (List ℕ)). (c ∷ w) ∷ ts) (rest_of rest b))

-- a nonempty text without blanks is the first token
pub first_token : (w rest : List ℕ) → is_filled w ≡ true → list_all is_inked w ≡ true
    → begins is_blank rest ≡ true → tokens (w ++ rest) ≡ w ∷ tokens rest
first_token [] rest f h b = absurd (false≢true f)
first_token (c ∷ w) rest f h b = tokens-word c w rest h b

empty_token : (text : List ℕ) → begins is_inked text ≡ true
    → take (position_or_len is_blank text) text ≡ [] → text ≡ []
empty_token [] b e = refl
empty_token (c ∷ cs) b e = elim (cases_Bool (is_blank c)) [
  | inl blank ↦ absurd (false≢true (rw blank at b))
  | inr inked ↦ let one : take (1 + position_or_len is_blank cs) (c ∷ cs) ≡ [] =
      rw inked at e in absurd (cc (rw one-add at one))
]

nothing_left : (n : ℕ) → tokens (drop n []) ≡ []
nothing_left zero = refl
nothing_left (suc n) = refl

-- if the text after the leading blanks is empty, the line has no tokens
pub next_none : (line : List ℕ) → let text = drop (position_or_len is_inked line) line in let n =
    position_or_len is_blank text in
    take n text ≡ [] → (tokens line ≡ []) × (tokens (drop n text) ≡ [])
next_none line e =
    let text = drop (position_or_len is_inked line) line in
    let none : text ≡ [] = empty_token text (after_cut is_inked line) e in
    let n = position_or_len is_blank text in (
      sym (blanks_off line) ∙ ap tokens none,
      ap (λ (t : List ℕ). tokens (drop n t)) none
          ∙ nothing_left n,
    )

pub next_some : (line : List ℕ) → let text = drop (position_or_len is_inked line) line in let n =
    position_or_len is_blank text in
    is_filled (take n text) ≡ true → tokens line ≡ take n text ∷ tokens (drop n text)
next_some line f =
    let text = drop (position_or_len is_inked line) line in
    let n = position_or_len is_blank text in
    sym (blanks_off line) ∙ ap tokens (sym (take-append-drop n text))
    ∙ first_token (take n text) (drop n text) f (before_cut is_blank text)
    (after_cut is_blank text)

-- the token and the rest that one call of `next` cuts from a line
pub record IsNext (line token rest : List ℕ) : Type 0 where
  pub none : length token ≡ 0 → (tokens line ≡ []) × (tokens rest ≡ [])
  pub some : length token ≢ 0 → tokens line ≡ token ∷ tokens rest

empty_from_length : (w : List ℕ) → length w ≡ 0 → w ≡ []
empty_from_length [] e = refl
empty_from_length (x ∷ xs) e = absurd (omega (arith, e))

filled_from_length : (w : List ℕ) → length w ≢ 0 → is_filled w ≡ true
filled_from_length [] ne = absurd (ne refl)
filled_from_length (x ∷ xs) ne = refl

pub is_next : (line text token rest : List ℕ) (start end : ℕ) → start
    ≡ unwrap_or (position is_inked line) (length line) → text ≡ drop start line
    → end ≡ unwrap_or (position is_blank text) (length text) → token ≡ take end text → rest
    ≡ drop end text → IsNext line token rest
is_next line text token rest start end s t e w r =
    let text_is : text ≡ drop (position_or_len is_inked line) line = t
    ∙ ap (λ (k : ℕ). drop k line) (s ∙ place_is is_inked line) in
    let end_is : end ≡ position_or_len is_blank (drop (position_or_len is_inked line) line) =
    e ∙ place_is is_blank text ∙ ap (λ (xs : List ℕ). position_or_len is_blank xs) text_is in
    rw (w, r, end_is, text_is) (record {
      none = λ empty. next_none line (empty_from_length _ empty);
      some = λ filled. next_some line (filled_from_length _ filled);
    })
