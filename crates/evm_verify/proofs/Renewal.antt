-- The result of a renewal, by the key and the attributes that are present.
use Rattle.std.proofs.Common.{◌≡◌, ◌∙◌, ap, sym, true, false, ℕ, List, ◌++◌, take, drop, refl}
use Rattle.std.specs.Prelude.{Some, None, Result, Ok, Err, OnOk, OnErr, IsErr}
use Rattle.std.proofs.lemmas.List.{take-append-drop}
use Rattle.inode_meta.specs.declared.identity.Meta.{Meta}
use Rattle.xattr_store.specs.Attrs.{Pair, put, value, without}
use Rattle.xattr_store.proofs.Changed.{without_absent}
use Rattle.xattr_store.specs.declared.attrs.NoData.{NoData}
use Rattle.evm_verify.specs.Input.{any_present, evm_input, evm_name, evm_value, five_names, protected_names}
use Rattle.evm_verify.specs.Setup.{Setup}
use Rattle.evm_verify.specs.Status.{renewed}

-- the five fixed names and those after them are all names
pub names_are : (names : List (List ℕ)) → take 5 names ≡ five_names → five_names ++ drop 5 names
    ≡ names
names_are names h = ap (λ front. front ++ drop 5 names) (sym h) ∙ take-append-drop 5 names

pub renewed_present : (evm : Setup) (key : List ℕ) (attrs : List Pair) (meta : Meta) → evm.key
    ≡ Some key →
    any_present (protected_names evm) attrs ≡ true →
    renewed evm attrs meta ≡ put evm_name (evm_value key (evm_input evm attrs meta)) attrs
renewed_present evm key attrs meta k there = rw (k, there) refl

pub renewed_absent : (evm : Setup) (key : List ℕ) (attrs : List Pair) (meta : Meta) → evm.key
    ≡ Some key →
    any_present (protected_names evm) attrs ≡ false → renewed evm attrs meta
    ≡ without evm_name attrs
renewed_absent evm key attrs meta k none = rw (k, none) refl

-- the result of a removal is the list without the name, even if the removal was refused
pub removed : (name : List ℕ) (old new : List Pair) (r : Result (Unit {0}) NoData)
    → OnOk r (new ≡ without name old) →
    (IsErr r → value name old ≡ None) → OnErr r (new ≡ old) → new ≡ without name old
removed name old new (Ok u) ok absent same = ok
removed name old new (Err e) ok absent same = same ∙ sym (without_absent name old (absent refl))
