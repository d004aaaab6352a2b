-- One more record is appended.
use Rattle.std.proofs.Common.{List, ◌++◌, ap, ◌∙◌, arith, take_all}
use Rattle.std.proofs.lemmas.Result.{err_from_is_err_and}
use Rattle.ima_templates.specs.declared.entry.Entry.{Entry}
use Rattle.carry_form.specs.Form.{record_of, records_of}
use Rattle.list_lemmas.proofs.Appending.{one_item}
use Rattle.list_lemmas.proofs.Kept.{kept_append, kept_before}
use Rattle.list_carry.proofs.writing.append_records.Goals as goal

pub loop-e-preserved : goal.loop-e-preserved
loop-e-preserved c =
    one_item c.args.out.now.items record_of c.args.list.now c.loop-e.e-index c.e-item.result
    (omega arith) c.e-item.is c.loop-e.invariant c.in_ok-append_record.ensures.ok

pub returns-in_err-append_record-clause-ok : goal.returns-in_err-append_record-clause-ok
returns-in_err-append_record-clause-ok c =
    let p = err_from_is_err_and c.from_residual.result c.from_residual.ensures.1 in
    rw p.1 tt

pub returns-in_err-append_record-clause-kept : goal.returns-in_err-append_record-clause-kept
returns-in_err-append_record-clause-kept c =
    kept_before c.args.out.now.items c.loop-e.out.items c.append_record.new.out.items _ _ _
    (omega arith) c.loop-e.invariant c.in_err-append_record.ensures.kept

pub returns-clause-ok : goal.returns-clause-ok
returns-clause-ok c =
    c.loop-e.invariant
    ∙ ap (λ (l : List Entry). c.args.out.now.items ++ records_of l)
    (take_all c.loop-e.e-index c.args.list.now (omega (arith, c.loop-e-test.false)))

pub returns-clause-kept : goal.returns-clause-kept
returns-clause-kept c = kept_append c.args.out.now.items _ _ _ (omega arith) c.loop-e.invariant
