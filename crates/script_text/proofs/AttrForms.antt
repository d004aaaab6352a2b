-- Attributes that are set by lines and seals have the forms of attributes.
use Rattle.std.proofs.Common.{◌≡◌, ℕ, ◌+◌, ◌≤◌, true, false, cond, List, [], ◌∷◌, length, Option, Some, None, if◌then◌else◌, refl, ap, inl, inr, arith}
use Rattle.std.specs.Cmp.Lexicographic.{bytes_decides}
use Rattle.std.specs.List.{list_all, sum_by}
use Rattle.std.specs.Ordering.{match_ordering}
use Rattle.std.specs.Str.{bytes_eq}
use Rattle.std.specs.declared.cmp.Ordering.TheVariants.{Less, Equal, Greater}
use Rattle.std.proofs.lemmas.Bool.{cases_Bool}
use Rattle.std.proofs.lemmas.List.Sums.{sum_by-cons}
use Rattle.evm_verify.specs.Input.{any_present, evm_input, evm_name, evm_value, protected_names}
use Rattle.evm_verify.specs.Setup.{Setup}
use Rattle.evm_verify.specs.Status.{renewed, renewed_under}
use Rattle.hash_algos.specs.Algo.{algo_size}
use Rattle.hash_algos.specs.Digest.{digest_of}
use Rattle.hash_algos.specs.Hash.{hash}
use Rattle.hash_algos.specs.declared.algo.Algo.{Algo}
use Rattle.hash_algos.specs.declared.algo.Algo.TheVariants as algo
use Rattle.hash_algos.proofs.HashLemmas.{length-hash, length-sha1}
use Rattle.evm_verify.specs.hmacs.Hmac.{hmac}
use Rattle.inode_meta.specs.declared.identity.Meta.{Meta}
use Rattle.label_values.specs.Labels.{is_plain, label_of}
use Rattle.text_forms.specs.Words.{is_word}
use Rattle.xattr_store.specs.Attrs.{Pair, byte_order, put, without}
use Rattle.xattr_store.proofs.OrderKept.{attrs-put, attrs-without}
use Rattle.xattr_store.proofs.Search.{eq_as_ordered}
use Rattle.xattr_store.specs.Names.{ima_name}
use Rattle.script_text.specs.Forms.{AreAttrs, are_bytes, attr_count, is_attr}
use Rattle.script_fields.specs.Limits.{is_counted, most_attrs}
use Rattle.script_text.specs.Settings.{one_if}
use Rattle.script_text.proofs.HashBytes.{hmac_bytes, label_bytes}
use Rattle.call_lines.proofs.Holding.{both_true, left_true, right_true}

forms_put : (name bytes : List ℕ) (attrs : List Pair) → is_attr (name, bytes) ≡ true
    → list_all is_attr attrs ≡ true → list_all is_attr (put name bytes attrs) ≡ true
forms_put name bytes [] h all = both_true (is_attr (name, bytes)) true h refl
forms_put name bytes (a ∷ rest) h all =
    let first : is_attr a ≡ true = left_true (is_attr a) (list_all is_attr rest) all in
    let others : list_all is_attr rest ≡ true = right_true (is_attr a) (list_all is_attr rest) all
    in
    let word : is_word 255 a.0 ≡ true = left_true (is_word 255 a.0) (are_bytes a.1) first in
    let value : are_bytes bytes ≡ true = right_true (is_word 255 name) (are_bytes bytes) h in
    elim (byte_order name a.0) as
    (λ r. list_all is_attr (match_ordering r ((name, bytes) ∷ a ∷ rest) ((a.0, bytes) ∷ rest)
    (a ∷ put name bytes rest)) ≡ true) [
      | Less ↦ both_true (is_attr (name, bytes)) (list_all is_attr (a ∷ rest)) h all
      | Equal ↦ both_true (is_attr (a.0, bytes)) (list_all is_attr rest)
          (both_true (is_word 255 a.0) (are_bytes bytes) word value) others
      | Greater ↦ both_true (is_attr a) (list_all is_attr (put name bytes rest)) first
          (forms_put name bytes rest h others)
    ]

forms_without : (name : List ℕ) (attrs : List Pair) → list_all is_attr attrs ≡ true
    → list_all is_attr (without name attrs) ≡ true
forms_without name [] all = refl
forms_without name (a ∷ rest) all =
    let first : is_attr a ≡ true = left_true (is_attr a) (list_all is_attr rest) all in
    let others : list_all is_attr rest ≡ true = right_true (is_attr a) (list_all is_attr rest) all
    in
    elim (bytes_eq name a.0) as
    (λ b. list_all is_attr (cond b rest (a ∷ without name rest)) ≡ true) [
      | true ↦ others
      | false ↦ both_true (is_attr a) (list_all is_attr (without name rest)) first
          (forms_without name rest others)
    ]

-- names that are equal in the order are the same
same_name : (name other : List ℕ) → byte_order name other ≡ Equal → name ≡ other
same_name name other e = (bytes_decides name other).0 (eq_as_ordered name other Equal e)

-- setting an attribute increases a sum by at most the new attribute's share
pub sum_put : (g : Pair → ℕ) (name bytes : List ℕ) (attrs : List Pair)
    → sum_by g (put name bytes attrs) ≤ sum_by g attrs + g (name, bytes)
sum_put g name bytes [] = omega (arith, sum_by-cons g (name, bytes) [])
sum_put g name bytes (a ∷ rest) =
    let whole = sum_by-cons g a rest in
    elim (byte_order name a.0) as (λ r. byte_order name a.0 ≡ r
    → sum_by g (match_ordering r ((name, bytes) ∷ a ∷ rest) ((a.0, bytes) ∷ rest)
    (a ∷ put name bytes rest)) ≤ sum_by g (a ∷ rest) + g (name, bytes)) [
      | Less ↦ λ e. omega (arith, sum_by-cons g (name, bytes) (a ∷ rest))
      | Equal ↦ λ e.
          let same : g (name, bytes) ≡ g (a.0, bytes) =
          ap (λ (n : List ℕ). g (n, bytes)) (same_name name a.0 e) in
          omega (arith, whole, same, sum_by-cons g (a.0, bytes) rest)
      | Greater ↦ λ e.
          omega (arith, whole, sum_by-cons g a (put name bytes rest), sum_put g name bytes rest)
    ] refl

sum_without : (g : Pair → ℕ) (name : List ℕ) (attrs : List Pair)
    → sum_by g (without name attrs) ≤ sum_by g attrs
sum_without g name [] = omega arith
sum_without g name (a ∷ rest) =
    let whole = sum_by-cons g a rest in
    elim (bytes_eq name a.0) as
    (λ b. sum_by g (cond b rest (a ∷ without name rest)) ≤ sum_by g (a ∷ rest)) [
      | true ↦ omega (arith, whole)
      | false ↦ omega (arith, whole, sum_by-cons g a (without name rest), sum_without g name rest)
    ]

-- the attributes still have their forms after one more is set
pub attrs_more : (name bytes : List ℕ) (attrs : List Pair) → is_attr (name, bytes) ≡ true
    → length bytes ≤ 4096 → sum_by attr_count attrs + one_if (is_counted name) ≤ most_attrs
    → AreAttrs attrs → AreAttrs (put name bytes attrs)
attrs_more name bytes attrs form few room h = record {
  ordered = attrs-put name bytes attrs few h.ordered;
  forms = forms_put name bytes attrs form h.forms;
  few = omega (arith, room, sum_put attr_count name bytes attrs);
}

-- ---- the seal

size_small : (a : Algo) → algo_size a ≤ 64
size_small algo.Md5 = omega arith
size_small algo.Sha1 = omega arith
size_small algo.Sha256 = omega arith
size_small algo.Sha384 = omega arith
size_small algo.Sha512 = omega arith
size_small algo.Sha224 = omega arith

label_few : (a : Algo) (m : List ℕ) → length (label_of (digest_of a m)) ≤ 4096
label_few a m = elim (cases_Bool (is_plain a (hash a m))) [
  | inl e ↦ rw e (omega (arith, length-hash a m, size_small a))
  | inr e ↦ rw e (omega (arith, length-hash a m, size_small a))
]

hmac_few : (key message : List ℕ) → length (evm_value key message) ≤ 4096
unfolding hmac
hmac_few key message =
    let n : length (hmac key message) ≡ 20 = length-sha1 _ in omega (arith, n)

hmac_form : (key message : List ℕ) → is_attr (evm_name, evm_value key message) ≡ true
hmac_form key message =
    both_true (is_word 255 evm_name) (are_bytes (evm_value key message)) refl
    (hmac_bytes key message)

-- the attributes still have their forms after their HMAC is renewed
under : (key : Option (List ℕ)) (evm : Setup) (attrs : List Pair) (meta : Meta)
    → AreAttrs attrs → AreAttrs (renewed_under key evm attrs meta)
under None evm attrs meta h = h
under (Some key) evm attrs meta h =
    let value = evm_value key (evm_input evm attrs meta) in
    elim (any_present (protected_names evm) attrs) as
    (λ b. AreAttrs (if b then put evm_name value attrs else without evm_name attrs)) [
      | true ↦ attrs_more evm_name value attrs (hmac_form key (evm_input evm attrs meta))
          (hmac_few key (evm_input evm attrs meta)) (omega (arith, h.few)) h
      | false ↦ record {
        ordered = attrs-without evm_name attrs h.ordered;
        forms = forms_without evm_name attrs h.forms;
        few = omega (arith, h.few, sum_without attr_count evm_name attrs);
      }
    ]

-- the attributes still have their forms after a seal
pub attrs_sealed : (evm : Setup) (a : Algo) (content : List ℕ) (attrs : List Pair) (meta : Meta)
    → AreAttrs attrs
    → AreAttrs (renewed evm (put ima_name (label_of (digest_of a content)) attrs) meta)
attrs_sealed evm a content attrs meta h =
    let label = label_of (digest_of a content) in
    let form : is_attr (ima_name, label) ≡ true =
    both_true (is_word 255 ima_name) (are_bytes label) refl (label_bytes a content) in
    under evm.key evm (put ima_name label attrs) meta
    (attrs_more ima_name label attrs form (label_few a content) (omega (arith, h.few)) h)

sum_under : (g : Pair → ℕ) → ((v : List ℕ) → g (evm_name, v) ≡ 0) → (key : Option (List ℕ))
    (evm : Setup) (attrs : List Pair) (meta : Meta)
    → sum_by g (renewed_under key evm attrs meta) ≤ sum_by g attrs
sum_under g none None evm attrs meta = omega arith
sum_under g none (Some key) evm attrs meta =
    let value = evm_value key (evm_input evm attrs meta) in
    elim (any_present (protected_names evm) attrs) as
    (λ b. sum_by g (if b then put evm_name value attrs else without evm_name attrs)
    ≤ sum_by g attrs) [
      | true ↦ omega (arith, sum_put g evm_name value attrs, none value)
      | false ↦ sum_without g evm_name attrs
    ]

-- a sum that counts neither the label nor the HMAC doesn't grow by a seal
pub sum_sealed : (g : Pair → ℕ) → ((v : List ℕ) → g (ima_name, v) ≡ 0)
    → ((v : List ℕ) → g (evm_name, v) ≡ 0)
    → (evm : Setup) (label : List ℕ) (attrs : List Pair) (meta : Meta)
    → sum_by g (renewed evm (put ima_name label attrs) meta) ≤ sum_by g attrs
sum_sealed g no_label no_hmac evm label attrs meta =
    omega (
      arith,
      sum_under g no_hmac evm.key evm (put ima_name label attrs) meta,
      sum_put g ima_name label attrs,
      no_label label,
    )
