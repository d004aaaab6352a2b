-- The printed words of numbers are plain, and are read as the same.
use Rattle.std.proofs.Common.{◌≡◌, ℕ, ◌-◌, ◌^◌, ◌<◌, ◌≤◌, ◌==◌, Bool, true, false, ◌&&◌, nat_le, Some, None, if◌then◌else◌, refl, sym, ◌∙◌, arith}
use Rattle.std.specs.Fmt.{decimal}
use Rattle.std.specs.Str.Parse.{digits_value}
use Rattle.std.proofs.lemmas.Bool.Decides.{nat_tests}
use Rattle.text_forms.specs.Numbers.{is_short_numeral}
use Rattle.text_forms.proofs.ShortNumbers.{short_number_by_value, short_number_of-decimal}
use Rattle.script_words.specs.Forms.{ino_of, place_among}
use Rattle.script_text.specs.fields.FileFields.{numeral_of}
use Rattle.script_text.specs.Forms.{is_ino}
use Rattle.call_lines.specs.Lines.{is_plain}
pub use Rattle.call_lines.proofs.Words.{decimal_plain, octal_plain, id_plain, descriptor_plain, id_back, mode_back, descriptor_back, small_back, offset_back, any_number_back, hex_plain, value_back, word_plain, path_plain}

at_most : (n most : ℕ) → nat_le n most ≡ true → n ≤ most
at_most n most h = grind (arith, nat_tests)

pub ino_plain : (n : ℕ) → is_ino n ≡ true → is_plain (decimal n) ≡ true
ino_plain n h =
    let le : n ≤ 0xffff_ffff_ffff_ffff = at_most n 0xffff_ffff_ffff_ffff h in
    decimal_plain n (omega arith)

pub ino_back : (n : ℕ) → is_ino n ≡ true → ino_of (decimal n) ≡ Some n
ino_back n h =
    let le : n ≤ 0xffff_ffff_ffff_ffff = at_most n 0xffff_ffff_ffff_ffff h in
    short_number_of-decimal 0xffff_ffff_ffff_ffff n (omega arith) le

pub place_back : (count n : ℕ) → n < count → n < 2 ^ 64 → place_among count (decimal n) ≡ Some n
place_back count n lt fits =
    let some : (count == 0) ≡ false = grind (arith, nat_tests) in
    rw some (short_number_of-decimal (count - 1) n fits (omega arith))

-- a word that is read as a number has the form of one
form_of : (b : Bool) (le : Bool) (v n : ℕ) → (if b && le then Some v else None) ≡ Some n → b ≡ true
form_of true le v n e = refl
form_of false le v n e = absurd (cc e)

pub numeral : (n : ℕ) → n < 2 ^ 64 → is_short_numeral 10 (decimal n) ≡ true
numeral n fits =
    form_of (is_short_numeral 10 (decimal n)) (nat_le (digits_value 10 (decimal n)) n)
    (digits_value 10 (decimal n)) n
    (sym (short_number_by_value 10 n (decimal n)) ∙ short_number_of-decimal n n fits (omega arith))

pub numeral_back : (n : ℕ) → n < 2 ^ 64 → numeral_of (decimal n) ≡ Some (decimal n)
numeral_back n fits = rw (numeral n fits) refl
