-- The entries of the examples: which of them are the same.
use Rattle.std.proofs.Common.{◌≡◌, ℕ, Bool, true, false, List, [], ◌∷◌, refl, sym, arith, lit<}
use Rattle.std.specs.Prelude.{◌&&◌, nat_le, All}
use Rattle.std.proofs.lemmas.Bool.{and_parts, leb-true}
use Rattle.std.proofs.lemmas.List.Elements.{All-cons, All-nil}
use Rattle.inode_events.proofs.about_hashes.HashLemmas.{length-hash}
use Rattle.inode_events.proofs.about_templates.SameLemmas.{same_data-fields}
use Rattle.inode_events.specs.Listing.{violated}
use Rattle.inode_events.specs.hashes.declared.algo.Algo.TheVariants.{Sha256}
use Rattle.inode_events.specs.templates.IsEntry.{IsEntry}
use Rattle.inode_events.specs.templates.Path.{IsGraphic}
use Rattle.inode_events.specs.templates.Same.{same}
use Rattle.worked_examples.specs.Shared.{abc, boot, entry, file_a, file_b}

-- all bytes are printing ASCII bytes other than the space
abbrev are_graphic : List ℕ → Bool
are_graphic [] = true
are_graphic (b ∷ rest) = (nat_le 0x21 b && nat_le b 0x7e) && are_graphic rest

-- bytes that pass `are_graphic` are graphic
graphic : (bytes : List ℕ) → are_graphic bytes ≡ true → All IsGraphic bytes
graphic [] g = All-nil IsGraphic
graphic (b ∷ rest) g =
    let parts = and_parts (nat_le 0x21 b && nat_le b 0x7e) (are_graphic rest) g in
    let ends = and_parts (nat_le 0x21 b) (nat_le b 0x7e) parts.0 in
    All-cons IsGraphic b rest (
      leb-true 0x21 b ends.0,
      leb-true b 0x7e ends.1,
    ) (graphic rest parts.1)

-- the boot aggregate is a valid entry
boot_valid : IsEntry boot
boot_valid = record {
  pcr = lit< tt;
  digest_size = refl;
  digest_of_ima = λ e. cc;
  name_not_empty = omega arith;
  name_at_most = omega arith;
  name_graphic = graphic boot.name refl;
  name_of_ima = λ e. cc;
  sig_at_most = omega arith;
  sig_of_ima = λ e. refl;
  sig_of_ima_ng = λ e. refl;
  violation = λ e. cc;
}

-- the entry of the file is a valid entry
entry_valid : IsEntry entry
entry_valid = record {
  pcr = lit< tt;
  digest_size = length-hash Sha256 abc;
  digest_of_ima = λ e. cc;
  name_not_empty = omega arith;
  name_at_most = omega arith;
  name_graphic = graphic entry.name refl;
  name_of_ima = λ e. cc;
  sig_at_most = omega arith;
  sig_of_ima = λ e. refl;
  sig_of_ima_ng = λ e. refl;
  violation = λ e. cc;
}

-- the file's entry is the same as itself
pub entry_same : same entry entry ≡ true
unfolding same
entry_same = sym (same_data-fields entry entry true entry_valid entry_valid refl
    ((λ y. (refl, refl, refl)), (λ f. refl)))

-- the boot aggregate isn't the same as the file's entry, since the names differ
pub boot_apart : same boot entry ≡ false
unfolding same
boot_apart = sym (same_data-fields boot entry false boot_valid entry_valid refl (
  (λ y. cc),
  (λ f. other_name f.1),
)) where
  other_name : boot.name ≡ entry.name → false ≡ true
  other_name e = cc

-- a violation isn't the same as any entry
pub violation_apart : same (violated file_a) entry ≡ false
unfolding same
violation_apart = refl

pub violation_b_apart : same (violated file_b) entry ≡ false
unfolding same
violation_b_apart = refl

pub boot_violation : same boot (violated file_a) ≡ false
unfolding same
boot_violation = refl

pub entry_violation : same entry (violated file_a) ≡ false
unfolding same
entry_violation = refl
