-- The printed words of numbers, values, names and paths are plain, and are read as the same.
use Rattle.std.proofs.Common.{◌≡◌, ℕ, ◌^◌, ◌<◌, ◌≤◌, ◌==◌, true, false, ◌&&◌, nat_le, List, [], ◌∷◌, length, Option, Some, refl, ap, ◌∙◌, inl, inr, arith}
use Rattle.std.specs.Fmt.{decimal}
use Rattle.std.specs.List.{list_all, slice_split, onto_first}
use Rattle.std.proofs.lemmas.Bool.{cases_Bool}
use Rattle.std.proofs.lemmas.Bool.Decides.{nat_tests}
use Rattle.std.proofs.lemmas.List.Sums.{list_all-from_AllPass}
use Rattle.hex.specs.Hex.{encode_lower, is_hex_digit}
use Rattle.hex.proofs.HexLemmas.{decode_of-encode_lower, decode_of-ok}
use Rattle.text_forms.specs.Numbers.{short_number_of}
use Rattle.text_forms.specs.Options.{◌>>=◌}
use Rattle.text_forms.specs.Paths.{is_path}
use Rattle.text_forms.specs.Tokens.{is_filled}
use Rattle.text_forms.specs.Words.{is_visible, is_word}
use Rattle.text_forms.proofs.ShortNumbers.{short_number_of-decimal, short_number_of-digits}
use Rattle.text_forms.proofs.Visible.{all_weaker, visible-digits}
use Rattle.script_words.specs.Forms.{descriptor_of, id_of, if_any, mode_of, offset_of, small_of}
use Rattle.script_words.specs.Value.{hex_value, value_of, within}
use Rattle.call_lines.specs.Form.{are_bytes, hex_text, is_descriptor, is_id, is_mode, is_value, octal}
use Rattle.call_lines.specs.Lines.{is_plain}
use Rattle.call_lines.proofs.Holding.{both_true, left_true, right_true}
use Rattle.call_lines.proofs.ValueForms.{indexed}

-- ---- numbers

-- what the test finds at most `most` is at most `most`
at_most : (n most : ℕ) → nat_le n most ≡ true → n ≤ most
at_most n most h = grind (arith, nat_tests)

-- a printed number of 64 bits is plain
pub decimal_plain : (n : ℕ) → n < 2 ^ 64 → is_plain (decimal n) ≡ true
decimal_plain n fits = visible-digits 10 n (omega arith) (omega arith) (omega arith)

-- a printed mode is plain
pub octal_plain : (n : ℕ) → is_mode n ≡ true → is_plain (octal n) ≡ true
octal_plain n h =
    let le : n ≤ 0xffff = at_most n 0xffff h in
    visible-digits 8 n (omega arith) (omega arith) (omega arith)

-- the printed number of a user or a group is plain
pub id_plain : (n : ℕ) → is_id n ≡ true → is_plain (decimal n) ≡ true
id_plain n h = let le : n ≤ 0xffff_ffff = at_most n 0xffff_ffff h in decimal_plain n (omega arith)

-- a printed descriptor is plain
pub descriptor_plain : (n : ℕ) → is_descriptor n ≡ true → is_plain (decimal n) ≡ true
descriptor_plain n h = let le : n ≤ 255 = at_most n 255 h in decimal_plain n (omega arith)

-- the printed number of a user or a group is read as the same number
pub id_back : (n : ℕ) → is_id n ≡ true → id_of (decimal n) ≡ Some n
id_back n h =
    let le : n ≤ 0xffff_ffff = at_most n 0xffff_ffff h in
    short_number_of-decimal 0xffff_ffff n (omega arith) le

-- a printed mode is read as the same mode
pub mode_back : (n : ℕ) → is_mode n ≡ true → mode_of (octal n) ≡ Some n
mode_back n h =
    let le : n ≤ 0xffff = at_most n 0xffff h in
    short_number_of-digits 8 (omega arith) (omega arith) 0xffff n (omega arith) le

-- a printed descriptor is read as the same descriptor
pub descriptor_back : (n : ℕ) → is_descriptor n ≡ true → descriptor_of (decimal n) ≡ Some n
descriptor_back n h =
    let le : n ≤ 255 = at_most n 255 h in short_number_of-decimal 255 n (omega arith) le

-- the printed number of a map, a run or a semaphore is read as the same number
pub small_back : (n : ℕ) → n < 64 → small_of (decimal n) ≡ Some n
small_back n h = short_number_of-decimal 63 n (omega arith) (omega arith)

-- a printed offset or length is read as the same number
pub offset_back : (n : ℕ) → nat_le n 0xffff_ffff ≡ true → offset_of (decimal n) ≡ Some n
offset_back n h = id_back n h

-- a number of at least one is read again
any_back : (o : Option ℕ) (n : ℕ) → o ≡ Some n → 1 ≤ n → if_any o ≡ Some n
any_back o n e some = let other : (n == 0) ≡ false = grind (arith, nat_tests) in rw (e, other) refl

-- a printed number of 64 bits, from 1 to its limit, is read as the same number
pub any_number_back : (most n : ℕ) → n < 2 ^ 64 → 1 ≤ n → n ≤ most
    → if_any (short_number_of 10 most (decimal n)) ≡ Some n
any_number_back most n fits some le =
    any_back (short_number_of 10 most (decimal n)) n (short_number_of-decimal most n fits le) some

-- ---- values

-- a hexadecimal digit is visible
hex_visible : (c : ℕ) → is_hex_digit c ≡ true → is_visible c ≡ true
hex_visible c h = grind (arith, nat_tests)

-- a value printed as `hex:` is plain
pub hex_plain : (v : List ℕ) → are_bytes v ≡ true → is_plain (hex_text v) ≡ true
hex_plain v h =
    let s = encode_lower v in
    let parts = decode_of-ok s v (decode_of-encode_lower v (indexed v h)) in
    all_weaker is_hex_digit is_visible hex_visible s (list_all-from_AllPass is_hex_digit s parts.1)

-- the hexadecimal digits of bytes are read as the same bytes
decoded : (v : List ℕ) → are_bytes v ≡ true → hex_value (encode_lower v) ≡ Some v
decoded v h = rw (decode_of-encode_lower v (indexed v h)) refl

-- a value printed as `hex:` is read as the same value
pub value_back : (least most : ℕ) (v : List ℕ) → is_value least most v ≡ true
    → value_of least most (hex_text v) ≡ Some v
value_back least most v h =
    let low = nat_le least (length v) in
    let high = nat_le (length v) most in
    let within_is : (low && high) ≡ true = left_true (low && high) (are_bytes v) h in
    ap (λ (o : Option (List ℕ)). o >>= within least most)
    (decoded v (right_true (low && high) (are_bytes v) h)) ∙ rw within_is refl

-- ---- names and paths

-- a word of 1 to 255 visible bytes is plain
pub word_plain : (w : List ℕ) → is_word 255 w ≡ true → is_plain w ≡ true
word_plain w h = right_true (is_filled w && nat_le (length w) 255) (is_plain w) h

-- parts of 1 to 255 visible bytes each are plain
parts_plain : (parts : List (List ℕ)) → list_all (is_word 255) parts ≡ true
    → list_all is_plain parts ≡ true
parts_plain parts h = all_weaker (is_word 255) is_plain word_plain parts h

-- the parts of a text between its slashes
abbrev parts_of : List ℕ → List (List ℕ)
parts_of bs = slice_split (λ c. c == 47) bs

-- a part with one more byte is plain only if the byte is visible
onto_plain : (b : ℕ) (parts : List (List ℕ)) → list_all is_plain (onto_first b parts) ≡ true
    → (is_visible b ≡ true) × (list_all is_plain parts ≡ true)
onto_plain b [] h =
    (left_true (is_visible b) true (left_true (is_visible b && true) true h), refl)
onto_plain b (part ∷ parts) h =
    let here = left_true (is_visible b && is_plain part) (list_all is_plain parts) h in
    let rest = right_true (is_visible b && is_plain part) (list_all is_plain parts) h in (
      left_true (is_visible b) (is_plain part) here,
      both_true (is_plain part) (list_all is_plain parts)
          (right_true (is_visible b) (is_plain part) here) rest,
    )

-- a slash is a visible byte
slash_visible : (b : ℕ) → (b == 47) ≡ true → is_visible b ≡ true
slash_visible b h = grind (arith, nat_tests)

-- text whose parts between slashes are plain is plain
between_plain : (bs : List ℕ) → list_all is_plain (parts_of bs) ≡ true → is_plain bs ≡ true
between_plain [] h = refl
between_plain (b ∷ bs) h = elim (cases_Bool (b == 47)) [
  | inl e ↦ both_true (is_visible b) (is_plain bs) (slash_visible b e)
      (between_plain bs (rw e at h))
  | inr e ↦
      let both = onto_plain b (parts_of bs) (rw e at h) in
      both_true (is_visible b) (is_plain bs) both.0 (between_plain bs both.1)
]

-- a path is plain
pub path_plain : (path : List ℕ) → is_path path ≡ true → is_plain path ≡ true
path_plain [] h = refl
path_plain (b ∷ parts) h =
    let front = (b == 47) && nat_le (length (b ∷ parts)) 1024 in
    let words = list_all (is_word 255) (parts_of parts) in
    both_true (is_visible b) (is_plain parts)
    (slash_visible b (left_true (b == 47) (nat_le (length (b ∷ parts)) 1024)
    (left_true front words h)))
    (between_plain parts (parts_plain (parts_of parts) (right_true front words h)))
