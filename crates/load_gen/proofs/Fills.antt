-- A value `fill:N:BB`, one byte repeated, is a plain word, and can be read back.
use Rattle.std.proofs.Common.{◌≡◌, ℕ, ◌+◌, ◌-◌, ◌^◌, ◌<◌, ◌≤◌, true, nat_le, List, [], ◌∷◌, ◌++◌, length, Option, Some, refl, ap, ◌∙◌, arith, length-append}
use Rattle.std.specs.Prelude.{codes, replicate}
use Rattle.std.specs.Fmt.{decimal}
use Rattle.std.proofs.Math.Seq.{drop-append_seam, take-append_seam}
use Rattle.std.proofs.lemmas.Bool.Decides.{nat_tests}
use Rattle.std.proofs.lemmas.List.{length-replicate}
use Rattle.std.proofs.lemmas.List.Folds.{list_all-append}
use Rattle.hex.specs.Hex.{lower_digits}
use Rattle.hex.proofs.HexLemmas.{length-encode_with}
use Rattle.text_forms.specs.Options.{◌>>=◌}
use Rattle.text_forms.specs.Words.{is_visible}
use Rattle.text_forms.proofs.ShortNumbers.{short_number_of-decimal}
use Rattle.script_words.specs.Value.{fill_value, value_of, within}
use Rattle.script_text.specs.Forms.{are_bytes}
use Rattle.script_spelling.specs.Lines.{is_plain}
use Rattle.script_spelling.proofs.Words.{decimal_plain, hex_plain}
use Rattle.load_gen.proofs.Numbered.{end_back, fill_end}

at_most : (n most : ℕ) → n ≤ most → nat_le n most ≡ true
at_most n most h = grind (arith, nat_tests)

-- the count of a `fill` and its byte, as text
abbrev pub fill_digits : ℕ → ℕ → List ℕ
fill_digits n b = decimal n ++ fill_end b

abbrev pub fill_text : ℕ → ℕ → List ℕ
fill_text n b = codes "fill:" ++ fill_digits n b

is_bytes : (b : ℕ) → b < 64 → are_bytes (b ∷ []) ≡ true
is_bytes b lt = grind (arith, nat_tests)

pub digits_plain : (n b : ℕ) → n < 2 ^ 64 → b < 64 → is_plain (fill_digits n b) ≡ true
digits_plain n b fits lt =
    rw (
      list_all-append is_visible (decimal n) (fill_end b),
      decimal_plain n fits,
      hex_plain (b ∷ []) (is_bytes b lt),
    ) refl

fill_back : (most n b : ℕ) → n ≤ most → n < 2 ^ 64 → b < 64
    → fill_value most (fill_digits n b) ≡ Some (replicate n b)
fill_back most n b le fits lt =
    let ds = decimal n in
    let e = fill_end b in
    let three : length e ≡ 3 = omega (arith, length-encode_with lower_digits (b ∷ [])) in
    let all : length (ds ++ e) ≡ length ds + 3 = omega (arith, length-append ds e, three) in
    let some : nat_le 3 (length (ds ++ e)) ≡ true =
    at_most 3 (length (ds ++ e)) (omega (arith, all)) in
    let front : length (ds ++ e) - 3 ≡ length ds = omega (arith, all) in
    rw (
      some,
      front,
      take-append_seam ds e,
      drop-append_seam ds e,
      end_back b lt,
      short_number_of-decimal most n fits le,
    ) refl

-- a `fill` is read as its bytes
pub fill_value_back : (least most n b : ℕ) → least ≤ n → n ≤ most → n < 2 ^ 64 → b < 64
    → value_of least most (fill_text n b) ≡ Some (replicate n b)
fill_value_back least most n b low high fits lt =
    let len : length (replicate n b) ≡ n = length-replicate n b in
    ap (λ (o : Option (List ℕ)). o >>= within least most) (fill_back most n b high fits lt)
    ∙ rw (len, at_most least n low, at_most n most high) refl
