-- The fields are those of the violation, which is valid.
use Rattle.std.proofs.Common.{true, refl, ◌∙◌, subst, sym}
use Rattle.hash_algos.specs.Digest.{HasDigestSize}
use Rattle.inode_meta.specs.Registers.{default_pcr}
use Rattle.ima_templates.specs.EntryValue.{all_fields}
use Rattle.ima_templates.specs.IsEntry.{IsEntry}
use Rattle.ima_templates.specs.Shown.{shown_digest}
use Rattle.ima_templates.proofs.EntryLemmas.{violation_valid}
use Rattle.ima_templates.proofs.entries.violation.Goals as goal

pub invariant_of-result : goal.invariant_of-result
invariant_of-result c =
    let digest = c.shown_digest.ensures.digest
    ∙ (λ i. shown_digest c.args.template (c.zeros-zeros.ensures i) (c.zeros.ensures i)) in
    let name = c.in_ok-from_slice.ensures.bytes ∙ c.shown_name.ensures in
    let sig = c.in_ok-from_slice-2.ensures.bytes in
    record {
      entry = subst IsEntry
          (λ i. all_fields default_pcr c.args.template (sym digest i) (sym name i) (sym sig i) true)
          (violation_valid c.args.template c.args.default c.args.path.now c.requires.template
          c.requires.path (subst HasDigestSize digest c.shown_digest.ensures.size));
      sha1 = refl;
      sha256 = refl;
    }
