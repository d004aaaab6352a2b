-- The length of the template data is appended, and then the template data.
use Rattle.std.proofs.Common.{arith}
use Rattle.ima_templates.specs.Data.{sized, template_data}
use Rattle.list_lemmas.proofs.Kept.{kept_append, kept_before}
use Rattle.list_carry.proofs.WritingLemmas.{appended_sized}
use Rattle.list_carry.proofs.writing.append_data.Goals as goal

pub returns-clause-ok : goal.returns-clause-ok
returns-clause-ok c =
    appended_sized _ _ _ _ _ c.in_ok-append_u32.ensures.ok c.in_ok-absorb_data.ensures.ok
    c.in_ok-data_length.ensures.exact

pub returns-in_err-absorb_data-clause-kept : goal.returns-in_err-absorb_data-clause-kept
returns-in_err-absorb_data-clause-kept c =
    kept_before c.args.out.now.items c.append_u32.new.out.items c.absorb_data.new.to.items _ _ _
    (omega arith) c.in_ok-append_u32.ensures.ok c.in_err-absorb_data.ensures.kept

pub returns-clause-kept : goal.returns-clause-kept
returns-clause-kept c =
    kept_append c.args.out.now.items _ (sized (template_data c.args.e.now)) _ (omega arith)
    (returns-clause-ok c)
