-- Keys that test equal are equal.
use Rattle.std.proofs.Common.{◌≡◌, Bool, true, false, ◌&&◌, Option, Some, None, refl, ap}
use Rattle.std.proofs.lemmas.Bool.{and_parts}
use Rattle.hash_algos.specs.declared.algo_set.AlgoSet.{AlgoSet}
use Rattle.inode_meta.specs.declared.appraisal.Need.{Need}
use Rattle.inode_meta.specs.declared.appraisal.Need.TheVariants as need
use Rattle.inode_meta.specs.declared.appraisal.Slot.{Slot}
use Rattle.inode_meta.specs.declared.appraisal.Slot.TheVariants as slot
use Rattle.inode_events.specs.Verdicts.{Key, same_algos, same_bool, same_key, same_need, same_set, same_slot}

-- slots that compare equal are equal
slot_true : (a b : Slot) → same_slot a b ≡ true → a ≡ b
slot_true slot.File slot.File e = refl
slot_true slot.Mmap slot.Mmap e = refl
slot_true slot.Bprm slot.Bprm e = refl
slot_true _ _ e = cc

-- needs that compare equal are equal
need_true : (a b : Need) → same_need a b ≡ true → a ≡ b
need_true need.Any need.Any e = refl
need_true need.Signature need.Signature e = refl
need_true _ _ e = cc

-- truth values that compare equal are equal
bool_true : (a b : Bool) → same_bool a b ≡ true → a ≡ b
bool_true true true e = refl
bool_true true false e = cc
bool_true false true e = cc
bool_true false false e = refl

-- sets of algorithms that compare equal are equal
set_true : (a b : AlgoSet) → same_set a b ≡ true → a ≡ b
set_true a b e =
    let h1 : (same_bool a.md5 b.md5 && same_bool a.sha1 b.sha1 && same_bool a.sha256 b.sha256 &&
    same_bool a.sha384 b.sha384 && same_bool a.sha512 b.sha512 ≡ true)
    × (same_bool a.sha224 b.sha224 ≡ true) = and_parts _ _ e in
    let h2 : (same_bool a.md5 b.md5 && same_bool a.sha1 b.sha1 && same_bool a.sha256 b.sha256 &&
    same_bool a.sha384 b.sha384 ≡ true) × (same_bool a.sha512 b.sha512 ≡ true) =
    and_parts _ _ h1.0 in
    let h3 : (same_bool a.md5 b.md5 && same_bool a.sha1 b.sha1 && same_bool a.sha256 b.sha256
    ≡ true) × (same_bool a.sha384 b.sha384 ≡ true) = and_parts _ _ h2.0 in
    let h4 : (same_bool a.md5 b.md5 && same_bool a.sha1 b.sha1 ≡ true)
    × (same_bool a.sha256 b.sha256 ≡ true) = and_parts _ _ h3.0 in
    let h5 : (same_bool a.md5 b.md5 ≡ true) × (same_bool a.sha1 b.sha1 ≡ true) =
    and_parts _ _ h4.0 in
    λ i. record {
      md5 = bool_true a.md5 b.md5 h5.0 i;
      sha1 = bool_true a.sha1 b.sha1 h5.1 i;
      sha256 = bool_true a.sha256 b.sha256 h4.1 i;
      sha384 = bool_true a.sha384 b.sha384 h3.1 i;
      sha512 = bool_true a.sha512 b.sha512 h2.1 i;
      sha224 = bool_true a.sha224 b.sha224 h1.1 i;
    }

-- optional sets of algorithms that compare equal are equal
algos_true : (a b : Option AlgoSet) → same_algos a b ≡ true → a ≡ b
algos_true None None e = refl
algos_true (Some a) (Some b) e = ap Some (set_true a b e)
algos_true None (Some b) e = cc
algos_true (Some a) None e = cc

-- keys that compare equal are equal
pub same_key-true : (a b : Key) → same_key a b ≡ true → a ≡ b
same_key-true a b e =
    let h1 : (same_slot a.slot b.slot && same_need a.need b.need ≡ true)
    × (same_algos a.algos b.algos ≡ true) = and_parts _ _ e in
    let h2 : (same_slot a.slot b.slot ≡ true) × (same_need a.need b.need ≡ true) =
    and_parts _ _ h1.0 in
    λ i. record {
      slot = slot_true a.slot b.slot h2.0 i;
      need =
          need_true a.need b.need h2.1 i;
      algos = algos_true a.algos b.algos h1.1 i;
    }
