-- The fields are those of a valid entry, and the template digests of a violation are zeros.
use Rattle.std.proofs.Common.{◌≡◌, Bool, refl, subst, sym}
use Rattle.std.specs.Prelude.{IfOk}
use Rattle.ima_templates.specs.EntryValue.{all_fields}
use Rattle.ima_templates.specs.IsEntry.{IsEntry}
use Rattle.ima_templates.proofs.entries.restore.Goals as goal

pub of_fields-requires : goal.of_fields-requires
of_fields-requires c =
    subst (λ (v : Bool). IsEntry (all_fields c.args.pcr c.args.template c.args.digest c.args.name
    c.args.sig v))
    c.if-not-violation.true c.requires

pub returns-then-not-violation : goal.returns-then-not-violation
returns-then-not-violation c =
    subst (λ (v : Bool). IfOk c.of_fields.result (λ e. e ≡ all_fields c.args.pcr c.args.template
    c.args.digest c.args.name c.args.sig v))
    (sym c.if-not-violation.true) c.of_fields.ensures

pub invariant_of-result : goal.invariant_of-result
invariant_of-result c = record {
  entry =
      subst (λ (v : Bool). IsEntry (all_fields c.args.pcr c.args.template c.args.digest c.args.name
      c.args.sig v))
      c.if-not-violation.false c.requires;
  sha1 = refl;
  sha256 = refl;
}

pub returns : goal.returns
returns c =
    λ i. all_fields c.args.pcr c.args.template c.args.digest c.args.name c.args.sig
    (sym c.if-not-violation.false i)
