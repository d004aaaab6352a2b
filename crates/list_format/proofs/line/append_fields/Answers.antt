-- One more field is appended, which leaves what was there.
use Rattle.std.proofs.Common.{◌∷◌, arith}
use Rattle.std.specs.Vec.{vec_len}
use Rattle.list_format.specs.Line.{field_text}
use Rattle.list_lemmas.proofs.Appending.{one_more}
use Rattle.list_lemmas.proofs.Kept.{kept_before}
use Rattle.list_format.proofs.line.append_fields.Goals as goal

pub loop-field-preserved : goal.loop-field-preserved
loop-field-preserved c =
    let appended = c.loop-field.invariant.appended in record {
      appended = one_more c.args.out.now.items (λ f. 32 ∷ field_text f c.args.e.now)
          c.fields-field-items.result.now c.loop-field.field-index _
          c.loop-field-test.true appended c.in_ok-append_field.ensures.ok;
      kept = kept_before c.args.out.now.items c.loop-field.out.items _ _ (vec_len c.args.out.now)
          (vec_len c.loop-field.out) (omega arith) appended
          c.in_ok-append_field.ensures.kept;
    }

pub returns-in_err-append_field-clause-kept : goal.returns-in_err-append_field-clause-kept
returns-in_err-append_field-clause-kept c =
    kept_before c.args.out.now.items c.loop-field.out.items _ _ (vec_len c.args.out.now)
    (vec_len c.loop-field.out) (omega arith) c.loop-field.invariant.appended
    c.in_err-append_field.ensures.kept
