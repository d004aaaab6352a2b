-- A form that was appended has a length that eight bytes hold, so the list is loaded from it.
use Rattle.std.proofs.lemmas.Result.{on_ok_weaker}
use Rattle.carry_form.proofs.FormLemmas.{load_of-form}
use Rattle.list_carry.proofs.writing.save.Goals as goal

pub returns-then-is_err-clause-loads : goal.returns-then-is_err-clause-loads
returns-then-is_err-clause-loads c =
    on_ok_weaker c.append_form-appended.result
    (λ small. load_of-form c.args.list.now small c.requires) c.append_form-appended.ensures.small

pub returns-else-is_err-clause-loads : goal.returns-else-is_err-clause-loads
returns-else-is_err-clause-loads c =
    on_ok_weaker c.append_form-appended.result
    (λ small. load_of-form c.args.list.now small c.requires) c.append_form-appended.ensures.small
