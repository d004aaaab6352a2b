-- One more field is written, and at the end all are.
use Rattle.std.proofs.Common.{get_or, List, ℕ, subst, sym, ap, ◌∙◌}
use Rattle.std.proofs.lemmas.List.{take_all}
use Rattle.std.specs.List.{flat_map}
use Rattle.inode_meta.specs.declared.measurement.Field.TheVariants.{Digest}
use Rattle.ima_templates.specs.Data.{field_data}
use Rattle.ima_templates.proofs.DataLemmas.{flat_map-more}
use Rattle.ima_templates.proofs.data.absorb_data.Goals as goal

pub loop-field-preserved : goal.loop-field-preserved
loop-field-preserved g c =
    let old = c.loop-field.invariant in record {
      absorbed = subst
          (λ (m : List ℕ). g.S.Absorb.absorbs c.args.to.now c.absorb_field.new.to m)
          (sym (flat_map-more (λ f. field_data f c.args.digest.now c.args.name.now c.args.sig.now)
          c.fields-field-items.result.now c.loop-field.field-index _ c.loop-field-test.true))
          (g.met.S.Absorb.more _ _ _ _ (field_data
          (get_or c.fields-field-items.result.now c.loop-field.field-index Digest)
          c.args.digest.now c.args.name.now c.args.sig.now)
          old.absorbed c.in_ok-absorb_field.ensures.ok);
      kept = g.met.S.Absorb.keeps_further _ _ _ old.kept c.in_ok-absorb_field.ensures.kept;
    }

pub returns-in_err-absorb_field-clause-kept : goal.returns-in_err-absorb_field-clause-kept
returns-in_err-absorb_field-clause-kept g c =
    g.met.S.Absorb.keeps_further _ _ _ c.loop-field.invariant.kept
    c.in_err-absorb_field.ensures.kept

pub returns-clause-ok : goal.returns-clause-ok
returns-clause-ok g c =
    subst (λ (m : List ℕ). g.S.Absorb.absorbs c.args.to.now c.loop-field.to m)
    (ap (flat_map (λ f. field_data f c.args.digest.now c.args.name.now c.args.sig.now))
    (take_all c.loop-field.field-index c.fields-field-items.result.now c.loop-field-test.false
    ∙ c.fields-field-items.ensures))
    c.loop-field.invariant.absorbed
