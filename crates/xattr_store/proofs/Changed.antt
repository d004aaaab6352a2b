-- The value of each attribute after a change, and the proof that a change keeps the order of the
-- names and the bound on the values.
use Rattle.std.proofs.Common.{◌≡◌, ◌∙◌, ap, sym, ℕ, List, [], ◌∷◌, refl}
use Rattle.std.specs.Prelude.{true, false, cond, Option, Some, None}
use Rattle.std.specs.Ordering.{match_ordering}
use Rattle.std.specs.Str.{bytes_eq}
use Rattle.std.specs.declared.cmp.Ordering.TheVariants.{Less, Equal, Greater}
use Rattle.std.proofs.lemmas.Slice.Eq.{bytes_eq-Decides}
use Rattle.xattr_store.specs.Attrs.{Fits, IsAttrs, Pair, byte_order, changed, put, value, without}
use Rattle.xattr_store.proofs.OrderKept.{attrs-put, attrs-without}
use Rattle.xattr_store.proofs.Search.{eq_as_ordered, value_before}

-- a change keeps the order of the names and the bound on the values
pub attrs-changed : (name : List ℕ) (bytes : Option (List ℕ)) (attrs : List Pair) → Fits bytes
    → IsAttrs attrs → IsAttrs (changed name bytes attrs)
attrs-changed name None attrs fits ok = attrs-without name attrs ok
attrs-changed name (Some bytes) attrs fits ok = attrs-put name bytes attrs fits ok

-- removing an absent name changes nothing
pub without_absent : (name : List ℕ) (attrs : List Pair) → value name attrs ≡ None
    → without name attrs ≡ attrs
without_absent name [] absent = refl
without_absent name (a ∷ rest) absent =
    elim (bytes_eq name a.0) as (λ b. cond b (Some a.1) (value name rest) ≡ None
    → cond b rest (a ∷ without name rest) ≡ a ∷ rest) [
      | true ↦ λ h. (cc)
      | false ↦ λ h. ap (λ (l : List Pair). a ∷ l) (without_absent name rest h)
    ] absent

-- bytes that equal one name don't equal another
not_other : (name a q : List ℕ) → bytes_eq name q ≡ false → bytes_eq name a ≡ true
    → bytes_eq q a ≡ false
not_other name a q differ same =
    elim (bytes_eq q a) as (λ b. bytes_eq q a ≡ b → b ≡ false) [
      | true ↦ λ h.
          let n : name ≡ a = (bytes_eq-Decides name a).0 same in
          let e : q ≡ a = (bytes_eq-Decides q a).0 h in
          sym ((bytes_eq-Decides name q).1 (n ∙ sym e)) ∙ differ
      | false ↦ λ h. refl
    ] refl

-- a name that was set has its value
value_put : (name bytes : List ℕ) (attrs : List Pair)
    → value name (put name bytes attrs) ≡ Some bytes
value_put name bytes [] = rw ((bytes_eq-Decides name name).1 refl) refl
value_put name bytes (a ∷ rest) =
    elim (byte_order name a.0) as (λ r. byte_order name a.0 ≡ r
    → value name (match_ordering r ((name, bytes) ∷ a ∷ rest) ((a.0, bytes) ∷ rest)
    (a ∷ put name bytes rest)) ≡ Some bytes) [
      | Less ↦ λ h. rw ((bytes_eq-Decides name name).1 refl) refl
      | Equal ↦ λ h. rw (eq_as_ordered name a.0 Equal h) refl
      | Greater ↦ λ h. rw (eq_as_ordered name a.0 Greater h) (value_put name bytes rest)
    ] refl

-- a name has the same value in two lists that begin with the same pair, if it has the same value in
-- their rests
value_ahead : (q : List ℕ) (a : Pair) (left right : List Pair) → value q left ≡ value q right
    → value q (a ∷ left) ≡ value q (a ∷ right)
value_ahead q a left right h = ap (λ v. cond (bytes_eq q a.0) (Some a.1) v) h

-- setting a name leaves the values of other names as they are
other_put : (name bytes q : List ℕ) (attrs : List Pair) → bytes_eq name q ≡ false
    → bytes_eq q name ≡ false → value q (put name bytes attrs) ≡ value q attrs
other_put name bytes q [] differ back = rw back refl
other_put name bytes q (a ∷ rest) differ back =
    elim (byte_order name a.0) as (λ r. byte_order name a.0 ≡ r
    → value q (match_ordering r ((name, bytes) ∷ a ∷ rest) ((a.0, bytes) ∷ rest)
    (a ∷ put name bytes rest)) ≡ value q (a ∷ rest)) [
      | Less ↦ λ h. rw back refl
      | Equal ↦ λ h. rw (not_other name a.0 q differ (eq_as_ordered name a.0 Equal h)) refl
      | Greater ↦ λ h. value_ahead q a _ _ (other_put name bytes q rest differ back)
    ] refl

-- removing a name leaves the values of other names as they are
other_without : (name q : List ℕ) (attrs : List Pair) → bytes_eq name q ≡ false
    → value q (without name attrs) ≡ value q attrs
other_without name q [] differ = refl
other_without name q (a ∷ rest) differ =
    elim (bytes_eq name a.0) as (λ b. bytes_eq name a.0 ≡ b
    → value q (cond b rest (a ∷ without name rest)) ≡ value q (a ∷ rest)) [
      | true ↦ λ h. rw (not_other name a.0 q differ h) refl
      | false ↦ λ h. value_ahead q a _ _ (other_without name q rest differ)
    ] refl

-- a name that was removed is absent
value_without : (name : List ℕ) (attrs : List Pair) → IsAttrs attrs
    → value name (without name attrs) ≡ None
value_without name [] ok = refl
value_without name (a ∷ rest) ok =
    elim (bytes_eq name a.0) as (λ b. bytes_eq name a.0 ≡ b
    → value name (cond b rest (a ∷ without name rest)) ≡ None) [
      | true ↦ λ h.
          let n : name ≡ a.0 = (bytes_eq-Decides name a.0).0 h in
          rw n (value_before a.0 rest ok.0)
      | false ↦ λ h. rw h (value_without name rest ok.2)
    ] refl

-- the changed name has its new value, or none
pub same_changed : (name : List ℕ) (bytes : Option (List ℕ)) (attrs : List Pair) → IsAttrs attrs
    → value name (changed name bytes attrs) ≡ bytes
same_changed name None attrs ok = value_without name attrs ok
same_changed name (Some bytes) attrs ok = value_put name bytes attrs

-- if a name differs from another, the other differs from it
differ_back : (name q : List ℕ) → bytes_eq name q ≡ false → bytes_eq q name ≡ false
differ_back name q differ = not_other name name q differ ((bytes_eq-Decides name name).1 refl)

-- a change leaves the values of other names as they are
pub other_changed : (name q : List ℕ) (bytes : Option (List ℕ)) (attrs : List Pair)
    → bytes_eq name q ≡ false → value q (changed name bytes attrs) ≡ value q attrs
other_changed name q None attrs differ = other_without name q attrs differ
other_changed name q (Some bytes) attrs differ =
    other_put name bytes q attrs differ (differ_back name q differ)

-- no value is longer than 4,096 bytes
pub value_fits : (name : List ℕ) (attrs : List Pair) → IsAttrs attrs → Fits (value name attrs)
value_fits name [] ok = tt
value_fits name (a ∷ rest) ok =
    elim (bytes_eq name a.0) as (λ b. Fits (cond b (Some a.1) (value name rest))) [
      | true ↦ ok.1
      | false ↦ value_fits name rest ok.2
    ]
