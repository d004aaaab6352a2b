-- Renewing the HMAC leaves the label.
use Rattle.std.proofs.Common.{◌≡◌, ℕ, Bool, true, false, List, [], ◌∷◌, Option, Some, None, refl, sym, ◌∙◌, ap, cond}
use Rattle.std.specs.BTreeMap.{insert_entry}
use Rattle.std.specs.Map.{remove_entry}
use Rattle.std.specs.Ordering.{match_ordering, is_eq}
use Rattle.std.proofs.lemmas.Map.Text.{is_eq-slice_cmp}
use Rattle.std.specs.Str.{bytes_eq}
use Rattle.std.specs.declared.cmp.Ordering.{Ordering}
use Rattle.std.specs.declared.cmp.Ordering.TheVariants.{Less, Equal, Greater}
use Rattle.std.proofs.lemmas.Bool.{cond-false, cond-true}
use Rattle.std.proofs.lemmas.Slice.Eq.{bytes_eq-Decides}
use Rattle.inode_meta.specs.declared.identity.Meta.{Meta}
use Rattle.inode_events.specs.evm.Input.{evm_input, evm_name, evm_value, any_present, protected_names}
use Rattle.inode_events.specs.evm.Setup.{Setup}
use Rattle.inode_events.specs.evm.Status.{renewed, renewed_under}
use Rattle.ima_templates.specs.xattrs.Attrs.{Pair, byte_order, put, value, without}
use Rattle.inode_events.specs.Integrity.{ima_name, label_in}

-- names that compare equal are equal
same_names : (a b : List ℕ) → byte_order a b ≡ Equal → a ≡ b
same_names a b e = (bytes_eq-Decides a b).0 (sym (is_eq-slice_cmp a b) ∙ ap is_eq e)

-- the name of the HMAC isn't that of the label
no_label : (name : List ℕ) → evm_name ≡ name → bytes_eq ima_name name ≡ false
no_label name e = ap (bytes_eq ima_name) (sym e)

-- putting the HMAC leaves the label
value-put : (attrs : List Pair) (bytes : List ℕ)
    → value ima_name (put evm_name bytes attrs) ≡ value ima_name attrs
value-put [] bytes = refl
value-put (p ∷ ps) bytes = put_at (value-put ps bytes) (byte_order evm_name p.0) refl where
  put_at : value ima_name (put evm_name bytes ps) ≡ value ima_name ps → (o : Ordering)
      → byte_order evm_name p.0 ≡ o
      → value ima_name (match_ordering o ((evm_name, bytes) ∷ p ∷ ps) ((p.0, bytes) ∷ ps)
      (p ∷ insert_entry byte_order ps evm_name bytes)) ≡ value ima_name (p ∷ ps)
  put_at ih Less e = refl
  put_at ih Equal e =
      let f : bytes_eq ima_name p.0 ≡ false = no_label p.0 (same_names evm_name p.0 e) in
      cond-false _ (Some bytes) _ f ∙ sym (cond-false _ (Some p.1) _ f)
  put_at ih Greater e = ap (λ (r : Option (List ℕ)). cond (bytes_eq ima_name p.0) (Some p.1) r) ih

-- removing the HMAC leaves the label
value-without : (attrs : List Pair) → value ima_name (without evm_name attrs) ≡ value ima_name attrs
value-without [] = refl
value-without (p ∷ ps) = left_at (value-without ps) (bytes_eq evm_name p.0) refl where
  left_at : value ima_name (without evm_name ps) ≡ value ima_name ps → (b : Bool)
      → bytes_eq evm_name p.0 ≡ b
      → value ima_name (cond b ps (p ∷ remove_entry (bytes_eq evm_name) ps)) ≡ value ima_name
      (p ∷ ps)
  left_at ih true e =
      sym (cond-false _ (Some p.1) _ (no_label p.0 ((bytes_eq-Decides evm_name p.0).0 e)))
  left_at ih false e = ap (λ (r : Option (List ℕ)). cond (bytes_eq ima_name p.0) (Some p.1) r) ih

-- either of two lists with this label has it
label-cond : (b : Bool) (x y z : List Pair) → label_in x ≡ label_in z → label_in y ≡ label_in z
    → label_in (cond b x y) ≡ label_in z
label-cond true x y z e f = e
label-cond false x y z e f = f

-- renewing leaves the label, with or without a key
renewed_lem : (key : Option (List ℕ)) (evm : Setup) (attrs : List Pair) (meta : Meta)
    → label_in (renewed_under key evm attrs meta) ≡ label_in attrs
renewed_lem None evm attrs meta = refl
renewed_lem (Some key) evm attrs meta =
    label-cond (any_present (protected_names evm) attrs)
    (put evm_name (evm_value key (evm_input evm attrs meta)) attrs)
    (without evm_name attrs) attrs
    (value-put attrs (evm_value key (evm_input evm attrs meta))) (value-without attrs)

-- renewing the HMAC leaves the label
pub label-renewed : (evm : Setup) (attrs : List Pair) (meta : Meta)
    → label_in (renewed evm attrs meta) ≡ label_in attrs
label-renewed evm attrs meta = renewed_lem evm.key evm attrs meta

-- a label that was put can be read
put_same : (attrs : List Pair) (bytes : List ℕ)
    → value ima_name (put ima_name bytes attrs) ≡ Some bytes
put_same [] bytes = refl
put_same (p ∷ ps) bytes = put_at (put_same ps bytes) (byte_order ima_name p.0) refl where
  put_at : value ima_name (put ima_name bytes ps) ≡ Some bytes → (o : Ordering)
      → byte_order ima_name p.0 ≡ o
      → value ima_name (match_ordering o ((ima_name, bytes) ∷ p ∷ ps) ((p.0, bytes) ∷ ps)
      (p ∷ insert_entry byte_order ps ima_name bytes)) ≡ Some bytes
  put_at ih Less e = refl
  put_at ih Equal e = cond-true (bytes_eq ima_name p.0) (Some bytes) _
      (sym (is_eq-slice_cmp ima_name p.0) ∙ ap is_eq e)
  put_at ih Greater e = cond-false (bytes_eq ima_name p.0) (Some p.1) _
      (sym (is_eq-slice_cmp ima_name p.0) ∙ ap is_eq e) ∙ ih

-- a label that was put is still there after the HMAC is renewed
pub label-put : (evm : Setup) (attrs : List Pair) (bytes : List ℕ) (meta : Meta)
    → label_in (renewed evm (put ima_name bytes attrs) meta) ≡ Some bytes
label-put evm attrs bytes meta =
    label-renewed evm (put ima_name bytes attrs) meta ∙ put_same attrs bytes
