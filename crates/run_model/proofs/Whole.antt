-- The two runs, unconditionally: the file's entry isn't the boot aggregate, whatever its digest.
use Rattle.std.proofs.Common.{◌≡◌, ℕ, Bool, true, false, List, [], ◌∷◌, None, refl, ap, sym, lit<, arith}
use Rattle.std.specs.Prelude.{◌&&◌, nat_le, All}
use Rattle.std.proofs.lemmas.Bool.{and_parts, leb-true}
use Rattle.std.proofs.lemmas.List.Elements.{All-cons, All-nil}
use Rattle.call_steps.specs.hashes.declared.algo.Algo.TheVariants.{Sha256}
use Rattle.call_steps.proofs.about_hashes.HashLemmas.{length-hash}
use Rattle.call_steps.specs.templates.IsEntry.{IsEntry}
use Rattle.call_steps.specs.templates.Path.{IsGraphic}
use Rattle.call_steps.specs.templates.Same.{place_of_same, same}
use Rattle.call_steps.proofs.about_templates.SameLemmas.{same_data-fields}
use Rattle.call_steps.specs.declared.ending.Ending.TheVariants as ending
use Rattle.run_model.specs.Rounds.{IsRunOf}
use Rattle.run_model.specs.Turns.{run_at, start_of, turns_of}
use Rattle.run_model.proofs.Rows.{boot, entry, image, one, one_end, one_is_run, one_run, one_runs, two, two_end, two_run}

-- ---- which entries are the same

-- whether all bytes are printable and none is a space
abbrev are_graphic : List ℕ → Bool
are_graphic [] = true
are_graphic (b ∷ rest) = (nat_le 0x21 b && nat_le b 0x7e) && are_graphic rest

graphic : (bytes : List ℕ) → are_graphic bytes ≡ true → All IsGraphic bytes
graphic [] g = All-nil IsGraphic
graphic (b ∷ rest) g =
    let parts = and_parts (nat_le 0x21 b && nat_le b 0x7e) (are_graphic rest) g in
    let ends = and_parts (nat_le 0x21 b) (nat_le b 0x7e) parts.0 in
    All-cons IsGraphic b rest (
      leb-true 0x21 b ends.0,
      leb-true b 0x7e ends.1,
    ) (graphic rest parts.1)

-- the boot aggregate is a valid entry of a measurement list
pub boot_valid : IsEntry boot
boot_valid = record {
  pcr = lit< tt;
  digest_size = refl;
  digest_of_ima = λ e. cc;
  name_not_empty = omega arith;
  name_at_most = omega arith;
  name_graphic = graphic boot.name refl;
  name_of_ima = λ e. cc;
  sig_at_most = omega arith;
  sig_of_ima = λ e. refl;
  sig_of_ima_ng = λ e. refl;
  violation = λ e. cc;
}

-- the entry of the file is a valid entry of a measurement list
pub entry_valid : IsEntry entry
entry_valid = record {
  pcr = lit< tt;
  digest_size = length-hash Sha256 image.content;
  digest_of_ima = λ e. cc;
  name_not_empty = omega arith;
  name_at_most = omega arith;
  name_graphic = graphic entry.name refl;
  name_of_ima = λ e. cc;
  sig_at_most = omega arith;
  sig_of_ima = λ e. refl;
  sig_of_ima_ng = λ e. refl;
  violation = λ e. cc;
}

-- the boot aggregate has another name than the file
pub entry_apart : same boot entry ≡ false
unfolding same
entry_apart = sym (same_data-fields boot entry false boot_valid entry_valid refl (
  (λ y. cc),
  (λ f. other_name f.1),
)) where
  other_name : boot.name ≡ entry.name → false ≡ true
  other_name e = cc

-- the file's entry is new to a list that has only the boot aggregate
pub entry_is_new : place_of_same (boot ∷ []) entry ≡ None
entry_is_new = rw entry_apart refl

-- ---- the runs

-- a task opens, reads and closes: the seven turns, and the run by rounds
pub one_runs_whole : turns_of one (start_of one) (0 ∷ 0 ∷ 0 ∷ 0 ∷ 0 ∷ 0 ∷ 0 ∷ []) ≡ one_end
one_runs_whole = one_runs entry_is_new

pub one_is_the_run : IsRunOf one ending.Rounds one_run
one_is_the_run = one_is_run entry_is_new

-- a reader opens, and then a writer: the seven turns, and the run by that schedule
pub two_runs_whole : turns_of two (start_of two) (0 ∷ 0 ∷ 0 ∷ 0 ∷ 0 ∷ 1 ∷ 1 ∷ []) ≡ two_end
two_runs_whole = two_run entry_is_new

pub two_is_the_run :
    IsRunOf two (ending.Schedule (0 ∷ 0 ∷ 0 ∷ 0 ∷ 0 ∷ 1 ∷ 1 ∷ [])) (run_at two_end)
two_is_the_run = ap run_at (sym two_runs_whole)
