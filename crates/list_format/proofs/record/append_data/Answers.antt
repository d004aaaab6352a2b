-- The length of the template data is appended, and then the template data.
use Rattle.std.proofs.Common.{rules, ◌≢◌, ◌++◌, arith, ap, ◌∙◌}
use Rattle.std.specs.Vec.{vec_len}
use Rattle.std.proofs.lemmas.Result.{on_ok_weaker}
use Rattle.byteorder.specs.Endian.{little_bytes}
use Rattle.inode_meta.specs.declared.measurement.Template.TheVariants.{Ima}
use Rattle.ima_templates.specs.Data.{sized, template_data}
use Rattle.list_lemmas.proofs.Kept.{appended_both, kept_before, kept_same}
use Rattle.list_format.proofs.AppendLemmas.{shown_data-sized}
use Rattle.list_format.proofs.record.append_data.Goals as goal

pub returns-in_ok-append_number-in_default : goal.returns-in_ok-append_number-in_default
unfolding sized
returns-in_ok-append_number-in_default c =
    let not_ima : c.args.e.now.template ≢ Ima = search rules in
    record {
      ok = on_ok_weaker c.absorb_data.result
          (λ shown. appended_both _ _ _ _ _ c.in_ok-append_number-in_default.ensures.ok shown
          ∙ ap (λ l. c.args.out.now.items ++ l)
          (ap (λ n. little_bytes 4 n ++ template_data c.args.e.now)
          c.in_ok-data_length-in_default.ensures.exact
          ∙ shown_data-sized c.args.e.now c.args.e.now.template not_ima))
          c.absorb_data.ensures.ok;
      kept = kept_before c.args.out.now.items c.append_number.new.out.items _ _
          (vec_len c.args.out.now) (vec_len c.append_number.new.out) (omega arith)
          c.in_ok-append_number-in_default.ensures.ok c.absorb_data.ensures.kept;
    }

pub returns-in_err-append_number-in_default-clause-kept :
    goal.returns-in_err-append_number-in_default-clause-kept
returns-in_err-append_number-in_default-clause-kept c =
    kept_same _ _ _ (omega arith) c.in_err-append_number-in_default.ensures.err
