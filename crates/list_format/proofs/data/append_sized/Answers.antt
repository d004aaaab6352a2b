-- The length is appended, and then the bytes.
use Rattle.std.proofs.Common.{◌∙◌, arith}
use Rattle.ima_templates.specs.Data.{sized}
use Rattle.list_lemmas.proofs.Kept.{appended_both, kept_append, kept_same}
use Rattle.list_format.proofs.data.append_sized.Goals as goal

pub returns-clause-ok : goal.returns-clause-ok
unfolding sized
returns-clause-ok c =
    appended_both _ _ _ _ _ c.in_ok-append_number.ensures.ok c.in_ok-extend_from_slice.ensures.items

pub returns-clause-kept : goal.returns-clause-kept
returns-clause-kept c = kept_append _ _ _ _ (omega arith) (returns-clause-ok c)

pub returns-in_err-append_number-clause-kept : goal.returns-in_err-append_number-clause-kept
returns-in_err-append_number-clause-kept c =
    kept_same _ _ _ (omega arith) c.in_err-append_number.ensures.err

pub returns-in_err-extend_from_slice-clause-kept : goal.returns-in_err-extend_from_slice-clause-kept
returns-in_err-extend_from_slice-clause-kept c =
    kept_append _ _ _ _ (omega arith)
    (c.in_err-extend_from_slice.ensures.items ∙ c.in_ok-append_number.ensures.ok)
