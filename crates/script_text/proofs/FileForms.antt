-- The settings, file systems and files that lines make have their forms.
use Rattle.std.proofs.Common.{◌≡◌, ℕ, zero, suc, ◌+◌, ◌*◌, ◌^◌, ◌<◌, ◌==◌, Bool, true, ◌&&◌, nat_le, List, [], ◌∷◌, ◌++◌, length, Option, Some, None, Ok, Err, IfOk, IfSome, slice_get, refl, inl, inr, arith}
use Rattle.std.specs.Prelude.{codes, option_map, slice_index}
use Rattle.std.specs.Int.{w128, from_be_bytes}
use Rattle.std.specs.List.{list_all}
use Rattle.std.proofs.lemmas.Bool.{cases_Bool}
use Rattle.std.proofs.lemmas.Bool.Decides.{nat_tests}
use Rattle.std.proofs.lemmas.List.{length-replicate}
use Rattle.std.proofs.lemmas.List.Folds.{list_all-append}
use Rattle.hash_algos.specs.Algo.{algo_size}
use Rattle.hash_algos.specs.Digest.{zero_digest}
use Rattle.hash_algos.specs.declared.algo.Algo.{Algo}
use Rattle.call_steps.specs.events.declared.image.Image.{Image}
use Rattle.inode_meta.specs.declared.measurement.Template.TheVariants as template
use Rattle.policy_text.specs.rules.RuleValue.{is_named_template}
use Rattle.policy_text.specs.rules.Values.{template_of}
use Rattle.policy_text.specs.rules.declared.access.Super.{Super}
use Rattle.text_forms.specs.FileSystems.{magic_of, uuid_of, without_0x}
use Rattle.text_forms.specs.Paths.{is_path}
use Rattle.text_forms.specs.Tokens.{is_filled}
use Rattle.text_forms.specs.Words.{is_word}
use Rattle.uuid.specs.Text.{by_index, byte_of_digits, digits_of, has_hyphens, is_hex_digit, parsed_simple, value_of as digit_of}
use Rattle.script_words.specs.declared.fault.LineCause.TheVariants as cause
use Rattle.script_words.specs.Forms.{after_key, after_key_by, id_of, ino_of, mode_of, read_by}
use Rattle.script_words.specs.Value.{value_of}
use Rattle.script_fields.specs.FileFields.{Front, content_of, file_in, front_in, front_of, front_with, numeral_of, path_of}
use Rattle.script_text.specs.Forms.{IsDigestOf, IsOnSome, are_bytes, is_byte, is_format, is_id, is_ino, is_key, is_mode, is_super, is_uuid}
use Rattle.script_fields.specs.Limits.{most_content, most_key}
use Rattle.script_fields.specs.SettingFields.{digest_in, digest_sized, format_of}
use Rattle.script_fields.specs.SuperFields.{name_of, super_in, super_of, super_with, versions_of}
use Rattle.script_text.proofs.HashBytes.{zeros}
use Rattle.call_lines.proofs.Holding.{at_some, both_true, given, left_true, looked_up, right_true, tested, unless_more}
use Rattle.call_lines.proofs.ValueForms.{indexed, is_value, number_of_within, number_within, value_within}

-- ---- settings

pub zeros_are : (a : Algo) → IsDigestOf a (zero_digest a)
zeros_are a = record {
  is = refl;
  size = length-replicate (algo_size a) 0;
  bytes = zeros (algo_size a);
}

pub template_named : (word : List ℕ) → IfSome (template_of word) (λ t. is_named_template t ≡ true)
template_named word =
    looked_up is_named_template
    ((codes "ima", template.Ima) ∷ (codes "ima-ng", template.ImaNg)
    ∷ (codes "ima-sig", template.ImaSig) ∷ []) word refl

pub format_formed : (word : List ℕ) → IfSome (format_of word) (λ f. is_format f ≡ true)
format_formed word = looked_up is_format ((codes "1", 1) ∷ (codes "2", 2) ∷ []) word refl

sized : (a : Algo) (bytes : List ℕ) → are_bytes bytes ≡ true
    → IfOk (digest_sized a bytes) (IsDigestOf a)
sized a bytes h =
    tested (IsDigestOf a) (length bytes == algo_size a) (Ok (record { algo = a; bytes = bytes }))
    (Err cause.BadField)
    (λ e. record { is = refl; size = grind (arith, nat_tests, e); bytes = h }) (λ e. tt)

bytes_in : (least most : ℕ) (v : List ℕ) → is_value least most v ≡ true → are_bytes v ≡ true
bytes_in least most v h =
    right_true (nat_le least (length v) && nat_le (length v) most) (are_bytes v) h

pub digest_formed : (a : Algo) (word : List ℕ) → IfOk (digest_in a word) (IsDigestOf a)
digest_formed a word =
    given (IsDigestOf a) (value_of 0 64 word) cause.BadField (λ bytes. digest_sized a bytes)
    (λ bytes e. sized a bytes
    (bytes_in 0 64 bytes
    (at_some (λ v. is_value 0 64 v ≡ true) (value_of 0 64 word) bytes (value_within 0 64 word) e)))

pub key_formed : (word : List ℕ) → IfSome (value_of 1 most_key word) (λ k. is_key k ≡ true)
key_formed word = value_within 1 most_key word

-- ---- words after a key

by_key : {A : Type 0} (P : A → Type 0) (form : List ℕ → Option A)
    → ((text : List ℕ) → IfSome (form text) P) → (o : Option (List ℕ)) → IfSome (read_by form o) P
by_key P form h None = tt
by_key P form h (Some text) = h text

pub by_after_key : {A : Type 0} (P : A → Type 0) (form : List ℕ → Option A) (key : List ℕ)
    → ((text : List ℕ) → IfSome (form text) P) → (text : List ℕ)
    → IfSome (after_key_by form key text) P
by_after_key P form key h text = by_key P form h (after_key key text)

-- ---- file systems

name_formed : (w : List ℕ) → IfSome (name_of w) (λ n. is_word 255 n ≡ true)
name_formed w = elim (cases_Bool (is_word 255 w)) [
  | inl e ↦ rw e e
  | inr e ↦ rw e tt
]

magic_formed : (text : List ℕ) → IfSome (magic_of text) (λ m. is_ino m ≡ true)
magic_formed text = elim (cases_Bool (nat_le (length (without_0x text)) 16)) [
  | inl e ↦ rw e (number_of_within 16 0xffff_ffff_ffff_ffff (without_0x text))
  | inr e ↦ rw e tt
]

digit_small : (c : ℕ) → is_hex_digit c ≡ true → digit_of c < 16
digit_small c h = grind (arith, nat_tests)

-- after the end of the digits a zero is read
digits_small : (hex : List ℕ) → list_all is_hex_digit hex ≡ true → (i : ℕ)
    → digit_of (slice_index hex i) < 16
digits_small [] h i = omega arith
digits_small (c ∷ cs) h zero = digit_small c (left_true (is_hex_digit c) _ h)
digits_small (c ∷ cs) h (suc i) = digits_small cs (right_true (is_hex_digit c) _ h) i

two_small : (a b : ℕ) → a < 16 → b < 16 → is_byte (a * 16 + b) ≡ true
two_small a b h k = grind (arith, nat_tests)

bytes_small : (hex : List ℕ) → list_all is_hex_digit hex ≡ true → (k : ℕ)
    → is_byte (byte_of_digits hex k) ≡ true
bytes_small hex h k =
    two_small (digit_of (slice_index hex (2 * k))) (digit_of (slice_index hex (2 * k + 1)))
    (digits_small hex h (2 * k)) (digits_small hex h (2 * k + 1))

all_by_index : (n : ℕ) (f : ℕ → ℕ) → ((k : ℕ) → is_byte (f k) ≡ true)
    → are_bytes (by_index n f) ≡ true
unfolding by_index
all_by_index zero f h = refl
all_by_index (suc n) f h =
    rw (list_all-append is_byte (by_index n f) (f n ∷ []), all_by_index n f h, h n) refl

sixteen : (r0 r1 r2 r3 r4 r5 r6 r7 r8 r9 r10 r11 r12 r13 r14 r15 : ℕ) → r0 < 256 → r1 < 256
    → r2 < 256 → r3 < 256 → r4 < 256 → r5 < 256 → r6 < 256 → r7 < 256 → r8 < 256 → r9 < 256
    → r10 < 256 → r11 < 256 → r12 < 256 → r13 < 256 → r14 < 256 → r15 < 256
    → r0 * 256 ^ 15 + r1 * 256 ^ 14 + r2 * 256 ^ 13 + r3 * 256 ^ 12 + r4 * 256 ^ 11 + r5 * 256 ^ 10
    + r6 * 256 ^ 9 + r7 * 256 ^ 8 + r8 * 256 ^ 7 + r9 * 256 ^ 6 + r10 * 256 ^ 5 + r11 * 256 ^ 4
    + r12 * 256 ^ 3 + r13 * 256 ^ 2 + r14 * 256 ^ 1 + r15 < 2 ^ 128
sixteen r0 r1 r2 r3 r4 r5 r6 r7 r8 r9 r10 r11 r12 r13 r14 r15 h0 h1 h2 h3 h4 h5 h6 h7 h8 h9 h10 h11
    h12 h13 h14 h15 = omega arith

test_of : (n : ℕ) → n < 2 ^ 128 → is_uuid n ≡ true
test_of n h = grind (arith, nat_tests)

-- sixteen bytes make a UUID
bytes_uuid : (xs : List ℕ) → are_bytes xs ≡ true → is_uuid (from_be_bytes w128 xs) ≡ true
bytes_uuid xs h =
    let s = indexed xs h in
    let i = λ (k : ℕ). slice_index xs k in
    let lt : from_be_bytes w128 xs < 2 ^ 128 =
    sixteen (i 0) (i 1) (i 2) (i 3) (i 4) (i 5) (i 6) (i 7) (i 8) (i 9) (i 10) (i 11) (i 12) (i 13)
    (i 14) (i 15) (s 0) (s 1) (s 2) (s 3) (s 4) (s 5) (s 6) (s 7) (s 8) (s 9) (s 10) (s 11) (s 12)
    (s 13) (s 14) (s 15) in
    test_of (from_be_bytes w128 xs) lt

simple_uuid : (hex : List ℕ)
    → IfSome (option_map (from_be_bytes w128) (parsed_simple hex)) (λ u. is_uuid u ≡ true)
simple_uuid hex = elim (cases_Bool ((length hex == 32) && list_all is_hex_digit hex)) [
  | inl e ↦ rw e
      (bytes_uuid (by_index 16 (byte_of_digits hex))
      (all_by_index 16 (byte_of_digits hex)
      (bytes_small hex (right_true (length hex == 32) (list_all is_hex_digit hex) e))))
  | inr e ↦ rw e tt
]

uuid_formed : (text : List ℕ) → IfSome (uuid_of text) (λ u. is_uuid u ≡ true)
uuid_formed text = elim (cases_Bool ((length text == 36) && has_hyphens text)) [
  | inl e ↦ rw e (simple_uuid (digits_of text))
  | inr e ↦ rw e tt
]

super_formed_of : (m u : Option ℕ) (n : Option (List ℕ)) (v : Option Bool)
    → IfSome m (λ x. is_ino x ≡ true) → IfSome u (λ x. is_uuid x ≡ true)
    → IfSome n (λ w. is_word 255 w ≡ true) → IfSome (super_with m u n v) (λ s. is_super s ≡ true)
super_formed_of (Some m) (Some u) (Some n) (Some v) hm hu hn =
    both_true (is_word 255 n && is_ino m) (is_uuid u) (both_true (is_word 255 n) (is_ino m) hn hm)
    hu
super_formed_of (Some m) (Some u) (Some n) None hm hu hn = tt
super_formed_of (Some m) (Some u) None v hm hu hn = tt
super_formed_of (Some m) None n v hm hu hn = tt
super_formed_of None u n v hm hu hn = tt

pub super_formed : (words : List (List ℕ)) → IfSome (super_in words) (λ s. is_super s ≡ true)
super_formed (m ∷ u ∷ n ∷ v ∷ more) =
    unless_more (λ s. is_super s ≡ true) (is_filled more) (super_of m u n v)
    (super_formed_of (after_key_by magic_of (codes "magic=") m)
    (after_key_by uuid_of (codes "uuid=") u)
    (after_key_by name_of (codes "name=") n) (versions_of v)
    (by_after_key (λ x. is_ino x ≡ true) magic_of (codes "magic=") magic_formed m)
    (by_after_key (λ x. is_uuid x ≡ true) uuid_of (codes "uuid=") uuid_formed u)
    (by_after_key (λ w. is_word 255 w ≡ true) name_of (codes "name=") name_formed n))
super_formed (m ∷ u ∷ n ∷ []) = tt
super_formed (m ∷ u ∷ []) = tt
super_formed (m ∷ []) = tt
super_formed [] = tt

-- ---- files

-- a file system that exists still does after one more is added
pub on_more : (supers : List Super) (s : Super) (k : ℕ) (i : Image)
    → IsOnSome (slice_get supers k) i → IsOnSome (slice_get (supers ++ s ∷ []) k) i
on_more [] s k i h = absurd h
on_more (x ∷ xs) s zero i h = h
on_more (x ∷ xs) s (suc k) i h = on_more xs s k i h

path_formed : (text : List ℕ) → IfSome (path_of text) (λ p. is_path p ≡ true)
path_formed text = elim (cases_Bool (is_path text)) [
  | inl e ↦ rw e e
  | inr e ↦ rw e tt
]

-- the words that `file` and `absent` share have their forms
pub record IsFront (f : Front) : Type 0 where
  pub path : is_path f.path ≡ true
  pub ino : is_ino f.ino ≡ true
  pub generation : is_id f.generation ≡ true
  pub uid : is_id f.uid ≡ true
  pub gid : is_id f.gid ≡ true
  pub mode : is_mode f.mode ≡ true

abbrev pub Ids : Option ℕ → Type 0
Ids o = IfSome o (λ n. is_id n ≡ true)

front_formed_of : (p f : Option (List ℕ)) (i g u o m : Option ℕ)
    → IfSome p (λ t. is_path t ≡ true) → IfSome i (λ n. is_ino n ≡ true) → Ids g → Ids u → Ids o
    → IfSome m (λ n. is_mode n ≡ true) → IfSome (front_with p f i g u o m) IsFront
front_formed_of (Some p) (Some f) (Some i) (Some g) (Some u) (Some o) (Some m) hp hi hg hu ho hm =
    record { path = hp; ino = hi; generation = hg; uid = hu; gid = ho; mode = hm }
front_formed_of (Some p) (Some f) (Some i) (Some g) (Some u) (Some o) None hp hi hg hu ho hm = tt
front_formed_of (Some p) (Some f) (Some i) (Some g) (Some u) None m hp hi hg hu ho hm = tt
front_formed_of (Some p) (Some f) (Some i) (Some g) None o m hp hi hg hu ho hm = tt
front_formed_of (Some p) (Some f) (Some i) None u o m hp hi hg hu ho hm = tt
front_formed_of (Some p) (Some f) None g u o m hp hi hg hu ho hm = tt
front_formed_of (Some p) None i g u o m hp hi hg hu ho hm = tt
front_formed_of None f i g u o m hp hi hg hu ho hm = tt

pub id_formed : (key text : List ℕ) → Ids (after_key_by id_of key text)
id_formed key text =
    by_after_key (λ n. is_id n ≡ true) id_of key (number_within 10 0xffff_ffff) text

front_formed : (p f i g u o m : List ℕ) → IfSome (front_of p f i g u o m) IsFront
front_formed p f i g u o m =
    front_formed_of (path_of p) (after_key_by numeral_of (codes "fs=") f)
    (after_key_by ino_of (codes "ino=") i) (after_key_by id_of (codes "gen=") g)
    (after_key_by id_of (codes "uid=") u) (after_key_by id_of (codes "gid=") o)
    (after_key_by mode_of (codes "mode=") m) (path_formed p)
    (by_after_key (λ n. is_ino n ≡ true) ino_of (codes "ino=")
    (number_within 10 0xffff_ffff_ffff_ffff) i)
    (id_formed (codes "gen=") g) (id_formed (codes "uid=") u) (id_formed (codes "gid=") o)
    (by_after_key (λ n. is_mode n ≡ true) mode_of (codes "mode=") (number_within 8 0xffff) m)

pub front_in_formed : (words : List (List ℕ)) → IfSome (front_in words) IsFront
front_in_formed (p ∷ f ∷ i ∷ g ∷ u ∷ o ∷ m ∷ more) =
    unless_more IsFront (is_filled more) (front_of p f i g u o m) (front_formed p f i g u o m)
front_in_formed (p ∷ f ∷ i ∷ g ∷ u ∷ o ∷ []) = tt
front_in_formed (p ∷ f ∷ i ∷ g ∷ u ∷ []) = tt
front_in_formed (p ∷ f ∷ i ∷ g ∷ []) = tt
front_in_formed (p ∷ f ∷ i ∷ []) = tt
front_in_formed (p ∷ f ∷ []) = tt
front_in_formed (p ∷ []) = tt
front_in_formed [] = tt

with_content : (c : List ℕ) (o : Option Front) → IfSome o IsFront
    → IfSome {T = Front × List ℕ} (option_map (λ front. (front, c)) o) (λ f. IsFront f.0)
with_content c None h = tt
with_content c (Some f) h = h

pub file_in_formed : (words : List (List ℕ)) → IfSome (file_in words) (λ f. IsFront f.0)
file_in_formed (p ∷ f ∷ i ∷ g ∷ u ∷ o ∷ m ∷ c ∷ more) =
    unless_more (λ f. IsFront f.0) (is_filled more)
    (option_map (λ front. (front, c)) (front_of p f i g u o m))
    (with_content c (front_of p f i g u o m) (front_formed p f i g u o m))
file_in_formed (p ∷ f ∷ i ∷ g ∷ u ∷ o ∷ m ∷ []) = tt
file_in_formed (p ∷ f ∷ i ∷ g ∷ u ∷ o ∷ []) = tt
file_in_formed (p ∷ f ∷ i ∷ g ∷ u ∷ []) = tt
file_in_formed (p ∷ f ∷ i ∷ g ∷ []) = tt
file_in_formed (p ∷ f ∷ i ∷ []) = tt
file_in_formed (p ∷ f ∷ []) = tt
file_in_formed (p ∷ []) = tt
file_in_formed [] = tt

-- a content within the limit
abbrev pub is_content : List ℕ → Bool
is_content c = is_value 0 most_content c

pub content_formed : (text : List ℕ)
    → IfSome (after_key_by content_of (codes "content=") text) (λ c. is_content c ≡ true)
content_formed text =
    by_after_key (λ c. is_content c ≡ true) content_of (codes "content=")
    (value_within 0 most_content) text
