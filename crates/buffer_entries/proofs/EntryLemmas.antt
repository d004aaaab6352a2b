-- A buffer's name and bytes are the fields of an entry.
use Rattle.std.proofs.Common.{◌≡◌, ℕ, ◌<◌, ◌≤◌, true, false, ◌&&◌, nat_le, List, [], ◌∷◌, length, arith}
use Rattle.std.specs.List.{list_all}
use Rattle.std.proofs.lemmas.Bool.{false≢true}
use Rattle.std.proofs.lemmas.Bool.Decides.{nat_tests}
use Rattle.std.proofs.lemmas.List.Elements.{All-weaker}
use Rattle.std.proofs.lemmas.List.Sums.{AllPass-from_list_all}
use Rattle.script_text.specs.events.forms.Tokens.{is_filled}
use Rattle.script_text.specs.events.forms.Words.{is_visible, is_word}
use Rattle.script_text.specs.Forms.{are_bytes}
use Rattle.script_text.specs.Limits.{most_value}
use Rattle.script_text.proofs.Holding.{left_true, right_true}
use Rattle.inode_meta.specs.declared.measurement.Template.TheVariants.{ImaBuf}
use Rattle.hash_algos.specs.Digest.{HasDigestSize}
use Rattle.hash_algos.specs.declared.digest.Digest.{Digest}
use Rattle.ima_templates.specs.EntryValue.{all_fields}
use Rattle.ima_templates.specs.IsEntry.{IsEntry}
use Rattle.ima_templates.specs.Path.{IsGraphic, IsMeasuredPath}
use Rattle.buffer_text.specs.Forms.{is_buffer}
use Rattle.buffer_text.specs.Text.{Buffer}

-- a visible byte may occur in the name of an entry
visible_graphic : (b : ℕ) → is_visible b ≡ true → IsGraphic b
visible_graphic b h = (grind (arith, nat_tests), grind (arith, nat_tests))

at_most : (n m : ℕ) → nat_le n m ≡ true → n ≤ m
at_most n m h = grind (arith, nat_tests)

some_bytes : (name : List ℕ) → is_filled name ≡ true → 1 ≤ length name
some_bytes [] h = absurd (false≢true h)
some_bytes (b ∷ bs) h = omega arith

-- a word can be the name of an entry
word_named : (name : List ℕ) → is_word 255 name ≡ true → IsMeasuredPath ImaBuf name
word_named name h =
    let front = is_filled name && nat_le (length name) 255 in
    let both : front ≡ true = left_true front (list_all is_visible name) h in
    let short : length name ≤ 255 =
    at_most (length name) 255 (right_true (is_filled name) (nat_le (length name) 255) both) in
    record {
      not_empty = some_bytes name (left_true (is_filled name) (nat_le (length name) 255) both);
      at_most = omega (arith, short);
      graphic = All-weaker (λ (b : ℕ). is_visible b ≡ true) IsGraphic visible_graphic name
          (AllPass-from_list_all is_visible name
          (right_true front (list_all is_visible name) h));
      component = λ e. absurd (cc e);
    }

-- a buffer's name can be that of an entry, and its bytes can be shown
buffer_named : (line : Buffer) → is_buffer line ≡ true → IsMeasuredPath ImaBuf line.0
buffer_named line h =
    word_named line.0
    (left_true (is_word 255 line.0) (nat_le (length line.1) most_value && are_bytes line.1) h)

buffer_shown : (line : Buffer) → is_buffer line ≡ true → length line.1 ≤ most_value
buffer_shown line h =
    at_most (length line.1) most_value
    (left_true (nat_le (length line.1) most_value) (are_bytes line.1)
    (right_true (is_word 255 line.0) (nat_le (length line.1) most_value && are_bytes line.1) h))

-- a digest with a buffer's name and bytes are the fields of an entry
pub buffer_entry : (pcr : ℕ) (d : Digest) (line : Buffer) → pcr < 24 → HasDigestSize d
    → is_buffer line ≡ true → IsEntry (all_fields pcr ImaBuf d line.0 line.1 false)
buffer_entry pcr d line few size h =
    let named = buffer_named line h in
    record {
      pcr = few;
      digest_size = size;
      digest_of_ima = λ e. absurd (cc e);
      name_not_empty = named.not_empty;
      name_at_most = named.at_most;
      name_graphic = named.graphic;
      name_of_ima = λ e. absurd (cc e);
      sig_at_most = buffer_shown line h;
      sig_of_ima = λ e. absurd (cc e);
      sig_of_ima_ng = λ e. absurd (cc e);
      violation = λ e. absurd (cc e);
    }
