-- What is appended is the carried form, and how long the form is.
use Rattle.std.proofs.Common.{◌≡◌, ℕ, ◌+◌, ◌<◌, List, ◌++◌, length, get_or, take, Option, None, Some, sym, ap, ◌∙◌, arith, append_assoc, length-append}
use Rattle.std.proofs.lemmas.Option.{none-some, same_Some}
use Rattle.std.specs.Prelude.{SomeIff}
use Rattle.byteorder.specs.Endian.{little_bytes}
use Rattle.list_lemmas.proofs.Appending.{flat_map_item}
use Rattle.ima_templates.specs.Data.{sized, template_data}
use Rattle.ima_templates.specs.declared.entry.Entry.{Entry}
use Rattle.carry_form.specs.Form.{form_length, header, mark, record_of, records_of}

-- ---- bytes that are appended

-- bytes are appended after their length
pub appended_sized : (o grown whole bytes : List ℕ) (n : ℕ) → grown ≡ o ++ little_bytes 4 n
    → whole ≡ grown ++ bytes → n ≡ length bytes → whole ≡ o ++ sized bytes
unfolding sized
appended_sized o grown whole bytes n first second count =
    second ∙ (λ i. first i ++ bytes) ∙ append_assoc o (little_bytes 4 n) bytes
    ∙ ap (λ (k : ℕ). o ++ (little_bytes 4 k ++ bytes)) count

-- five lists, grouped from the second on
regroup : (o a b c d : List ℕ) → (((o ++ a) ++ b) ++ c) ++ d ≡ o ++ (((a ++ b) ++ c) ++ d)
regroup o a b c d = simp append_assoc

-- the four parts of a header are appended
pub appended_header : (o p q r s : List ℕ) (count whole : ℕ) → p ≡ o ++ mark
    → q ≡ p ++ little_bytes 4 1 → r ≡ q ++ little_bytes 8 count → s ≡ r ++ little_bytes 8 whole
    → s ≡ o ++ header count whole
unfolding header
appended_header o p q r s count whole first second third fourth =
    fourth
    ∙ (λ i. third i ++ little_bytes 8 whole)
    ∙ (λ i. (second i ++ little_bytes 8 count) ++ little_bytes 8 whole)
    ∙ (λ i. ((first i ++ little_bytes 4 1) ++ little_bytes 8 count) ++ little_bytes 8 whole)
    ∙ regroup o mark (little_bytes 4 1) (little_bytes 8 count) (little_bytes 8 whole)

-- ---- the length of a form

-- a record has ten bytes beside the template data
length-record_of : (e : Entry) → length (record_of e) ≡ 10 + length (template_data e)
unfolding record_of sized
length-record_of e = omega arith

-- the length of the form of one more entry
pub form_length-more : (list : List Entry) (i : ℕ) (e : Entry) → i < length list
    → e ≡ get_or list i e
    → form_length (take (i + 1) list)
    ≡ form_length (take i list) + (10 + length (template_data e))
form_length-more list i e within is =
    omega (
      arith,
      ap length (flat_map_item record_of list i e within is),
      length-append (records_of (take i list)) (record_of e),
      length-record_of e,
    )

-- a sum that fits is the sum
pub sum_is : (o : Option ℕ) (P : Type 0) (v x : ℕ) → SomeIff o P v → o ≡ Some x → x ≡ v
sum_is None P v x said is = absurd (none-some x is)
sum_is (Some y) P v x said is = sym (same_Some y x is) ∙ said.1
