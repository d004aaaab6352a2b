-- Only the program's own pieces of a page have bytes of tags or of attributes' ends.
use Rattle.std.proofs.Common.{◌≡◌, ℕ, zero, suc, ◌+◌, ◌/◌, ◌%◌, true, false, List, [], ◌∷◌, refl, arith, inl, inr}
use Rattle.std.specs.Prelude.{nat_lt}
use Rattle.std.specs.List.{list_all}
use Rattle.std.proofs.lemmas.Bool.{cases_Bool, ltb-true}
use Rattle.std.proofs.lemmas.List.Folds.{list_all-append}
use Rattle.view_journal.specs.reading.reports.Numerals.{numeral, numeral_in}
use Rattle.view_page.specs.Escape.{is_safe}
use Rattle.view_page.specs.Pieces.{bytes_of, is_own, outcome_in, text_at, word_at}
use Rattle.view_page.specs.declared.pieces.Piece.{Piece}
use Rattle.view_page.specs.declared.pieces.Piece.TheVariants as piece
use Rattle.view_page.proofs.Safe.{decimal_safe, texts_stay_texts}

-- at most so many digits
digits_safe : (most n : ℕ) → list_all is_safe (numeral_in most n) ≡ true
digits_safe zero n = refl
digits_safe (suc most) n =
    elim (cases_Bool (nat_lt n 10)) [
      | inl t ↦ rw (t, decimal_safe n (ltb-true n 10 t)) refl
      | inr f ↦ rw (
        f,
        list_all-append is_safe (numeral_in most (n / 10)) ((48 + n % 10) ∷ []),
        digits_safe most (n / 10),
        decimal_safe (n % 10) (omega arith),
      ) refl
    ]

-- a number
numeral_safe : (n : ℕ) → list_all is_safe (numeral n) ≡ true
unfolding numeral
numeral_safe n = digits_safe (suc n) n

pub only_own_pieces_make_tags : (text : List ℕ) (p : Piece) → is_own p ≡ false
    → list_all is_safe (bytes_of text p) ≡ true
only_own_pieces_make_tags text (piece.Own o) h = cc
only_own_pieces_make_tags text (piece.Number n) h = numeral_safe n
only_own_pieces_make_tags text (piece.Text span) h = texts_stay_texts (text_at text span)
only_own_pieces_make_tags text (piece.Word span spaces) h =
    texts_stay_texts (word_at spaces (text_at text span))
only_own_pieces_make_tags text (piece.Told span spaces) h =
    texts_stay_texts (word_at spaces (outcome_in (text_at text span)))
