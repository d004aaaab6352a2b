-- Setting and removing a name keep the order of the names and the bound on the values.
use Rattle.std.proofs.Common.{◌≡◌, ◌∙◌, ap, ℕ, ◌≤◌, List, [], ◌∷◌, length, refl}
use Rattle.std.specs.Prelude.{true, false, cond}
use Rattle.std.specs.Cmp.Lexicographic.{nat_list_cmp_total}
use Rattle.std.specs.Ordering.{match_ordering, ordering_reverse}
use Rattle.std.specs.Str.{bytes_eq}
use Rattle.std.specs.declared.cmp.Ordering.TheVariants.{Less, Equal, Greater}
use Rattle.xattr_store.specs.Attrs.{byte_order, IsAttrs, IsBefore, Pair, put, without}
use Rattle.xattr_store.proofs.Search.{before_trans}

before-put : (low name bytes : List ℕ) (attrs : List Pair) → byte_order low name ≡ Less
    → IsBefore low attrs → IsBefore low (put name bytes attrs)
before-put low name bytes [] first before = (first, tt)
before-put low name bytes (a ∷ rest) first before =
    elim (byte_order name a.0) as
    (λ r. IsBefore low (match_ordering r ((name, bytes) ∷ a ∷ rest) ((a.0, bytes) ∷ rest)
    (a ∷ put name bytes rest))) [
      | Less ↦ (first, before)
      | Equal ↦ before
      | Greater ↦ (before.0, before-put low name bytes rest first before.1)
    ]

pub attrs-put : (name bytes : List ℕ) (attrs : List Pair) → length bytes ≤ 4096 → IsAttrs attrs
    → IsAttrs (put name bytes attrs)
attrs-put name bytes [] fits ok = (tt, fits, tt)
attrs-put name bytes (a ∷ rest) fits ok =
    elim (byte_order name a.0) as (λ r. byte_order name a.0 ≡ r
    → IsAttrs (match_ordering r ((name, bytes) ∷ a ∷ rest) ((a.0, bytes) ∷ rest)
    (a ∷ put name bytes rest))) [
      | Less ↦ λ first. ((first, before_trans name a.0 rest first ok.0), fits, ok)
      | Equal ↦ λ same. (ok.0, fits, ok.2)
      | Greater ↦ λ after. (
        before-put a.0 name bytes rest (nat_list_cmp_total.antisymm a.0 name
            ∙ ap ordering_reverse after) ok.0,
        ok.1,
        attrs-put name bytes rest fits ok.2,
      )
    ] refl

before-without : (low name : List ℕ) (attrs : List Pair) → IsBefore low attrs
    → IsBefore low (without name attrs)
before-without low name [] before = tt
before-without low name (a ∷ rest) before =
    elim (bytes_eq name a.0) as (λ b. IsBefore low (cond b rest (a ∷ without name rest))) [
      | true ↦ before.1
      | false ↦ (before.0, before-without low name rest before.1)
    ]

pub attrs-without : (name : List ℕ) (attrs : List Pair) → IsAttrs attrs
    → IsAttrs (without name attrs)
attrs-without name [] ok = tt
attrs-without name (a ∷ rest) ok =
    elim (bytes_eq name a.0) as (λ b. IsAttrs (cond b rest (a ∷ without name rest))) [
      | true ↦ ok.2
      | false ↦ (before-without a.0 name rest ok.0, ok.1, attrs-without name rest ok.2)
    ]
