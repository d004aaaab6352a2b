-- Magic numbers and UUIDs: their printed text is visible, and is read back as the same value.
use Rattle.std.proofs.Common.{◌≡◌, ℕ, zero, suc, ◌+◌, ◌/◌, ◌%◌, ◌^◌, ◌<◌, ◌≤◌, Bool, true, false, ◌==◌, List, [], ◌∷◌, length, get_or, Option, Some, None, Err, IsOk, ◌↔◌, nat_le, if◌then◌else◌, refl, sym, ap, ◌∙◌, inl, inr, arith}
use Rattle.std.specs.Fmt.{digits, digits_onto, digit_glyph}
use Rattle.std.specs.Int.{w128, to_be_bytes, from_be_bytes, bytes_high_first, byte_at}
use Rattle.std.specs.List.{list_all, All}
use Rattle.std.specs.Option.{option_map}
use Rattle.std.proofs.lemmas.Bool.{cases_Bool, le-leb}
use Rattle.std.proofs.lemmas.Bool.Decides.{nat_tests}
use Rattle.std.proofs.lemmas.List.Folds.{list_all-append}
use Rattle.uuid.specs.Text.{by_index, hex_digit, nibble, hyphenated_text, lower, is_hyphen_place, digit_place, parsed, parsed_hyphenated}
use Rattle.uuid.proofs.TextLemmas.{nibble_small}
use Rattle.uuid.proofs.RoundTrips.{parses_hyphenated_text}
use Rattle.uuid.proofs.OrderLemmas.{from_be_bytes-to_be_bytes_16}
use Rattle.text_forms.specs.FileSystems.{magic_of, magic_text, uuid_of, uuid_text}
use Rattle.text_forms.specs.Words.{is_visible}
use Rattle.text_forms.proofs.Visible.{number_of-digits, visible-digits}

-- a number below 16 ^ m has at most m digits
length-digits_onto : (most k n : ℕ) (acc : List ℕ) → n < 16 ^ suc most
    → length (digits_onto k 16 false n acc) ≤ suc most + length acc
length-digits_onto zero zero n acc h = omega arith
length-digits_onto (suc most) zero n acc h = omega arith
length-digits_onto zero (suc k) n acc h = let last : (n / 16 == 0) ≡ true = grind (arith, nat_tests)
    in rw last (omega arith)
length-digits_onto (suc most) (suc k) n acc h =
    elim (cases_Bool (n / 16 == 0)) [
      | inl last ↦ rw last (omega arith)
      | inr more ↦
          let shorter = length-digits_onto most k (n / 16) (digit_glyph false (n % 16) ∷ acc)
          (omega arith) in
          rw more (omega (arith, shorter))
    ]

length-hex : (n : ℕ) → n ≤ 0xffff_ffff_ffff_ffff → nat_le (length (digits 16 false n)) 16 ≡ true
unfolding digits
length-hex n fits =
    let short = length-digits_onto 15 64 n [] (omega arith) in
    let le : length (digits_onto 64 16 false n []) ≤ 16 = omega (arith, short) in
    le-leb _ 16 le

-- the text of a magic number is visible, and is read back
pub magic_again : (n : ℕ) → n ≤ 0xffff_ffff_ffff_ffff → (list_all is_visible (magic_text n) ≡ true)
    × (magic_of (magic_text n) ≡ Some n)
magic_again n fits =
    let small : n < 16 ^ 64 = omega arith in (
      visible-digits 16 n (omega arith) (omega arith) small,
      rw (length-hex n fits)
          (number_of-digits 16 n (omega arith) (omega arith) small 0xffff_ffff_ffff_ffff fits),
    )

byte_small : (k n : ℕ) → byte_at k n < 256
byte_small zero n = omega arith
byte_small (suc k) n = grind arith

high_bytes_small : (k n : ℕ) (i d : ℕ) → i < length (bytes_high_first k n)
    → get_or (bytes_high_first k n) i d < 256
high_bytes_small zero n i d h = absurd (omega (arith, h))
high_bytes_small (suc k) n zero d h = byte_small k n
high_bytes_small (suc k) n (suc i) d h = high_bytes_small k n i d (omega (arith, h))

visible_hex : (d : ℕ) → d < 16 → is_visible (hex_digit lower d) ≡ true
visible_hex d h = grind (arith, nat_tests)

all_by_index : (p : ℕ → Bool) (n : ℕ) (f : ℕ → ℕ) → ((k : ℕ) → p (f k) ≡ true)
    → list_all p (by_index n f) ≡ true
unfolding by_index
all_by_index p zero f h = refl
all_by_index p (suc n) f h =
    rw (list_all-append p (by_index n f) (f n ∷ []), all_by_index p n f h, h n) refl

visible_hyphenated : (xs : List ℕ) → list_all is_visible (hyphenated_text lower xs) ≡ true
visible_hyphenated xs =
    all_by_index is_visible 36 (λ k. if is_hyphen_place k then 45
    else hex_digit lower (nibble xs (digit_place k)))
    (λ k. elim (cases_Bool (is_hyphen_place k)) [
      | inl e ↦ rw e refl
      | inr e ↦ rw e (visible_hex (nibble xs (digit_place k)) (nibble_small xs (digit_place k)))
    ])

read_by : (f : List ℕ → ℕ) (xs : List ℕ) (n : ℕ) → length xs ≡ 16 → All (λ b. b < 256) xs → f xs ≡ n
    → option_map f (parsed_hyphenated (hyphenated_text lower xs)) ≡ Some n
read_by f xs n len small e =
    ap (λ (o : Option (List ℕ)). option_map f o)
    (sym (parses_hyphenated_text lower xs (inl refl) len small)) ∙ ap (λ (m : ℕ). Some m) e

-- the text of a UUID is visible, and is read back
pub uuid_again : (n : ℕ) → n < 2 ^ 128 → (list_all is_visible (uuid_text n) ≡ true)
    × (uuid_of (uuid_text n) ≡ Some n)
uuid_again n fits = (
  visible_hyphenated (to_be_bytes w128 n),
  read_by (from_be_bytes w128) (to_be_bytes w128 n) n refl (high_bytes_small 16 n)
      (from_be_bytes-to_be_bytes_16 n fits),
)

-- a text of 36 bytes can only be in the hyphenated form
parsed_at_36 : (s : List ℕ) → length s ≡ 36 → parsed s ≡ parsed_hyphenated s
parsed_at_36 s len = rw len refl

some_uuid : {E : Type 0} (e : E) (s : List ℕ) (o : Option (List ℕ)) → parsed s ≡ o
    → (IsOk {T = List ℕ} (Err e) ↔ ((u : List ℕ) × (parsed s ≡ Some u))) → None
    ≡ option_map (from_be_bytes w128) o
some_uuid e s None is h = refl
some_uuid e s (Some u) is h = absurd (cc (h.1 (u, is)))

pub uuid_none : {E : Type 0} (e : E) (s : List ℕ) → length s ≡ 36
    → (IsOk {T = List ℕ} (Err e) ↔ ((u : List ℕ) × (parsed s ≡ Some u))) → None ≡ uuid_of s
uuid_none e s len h = some_uuid e s (parsed_hyphenated s) (parsed_at_36 s len) h
