-- The concatenated head, fields and newline are the line.
use Rattle.std.proofs.Common.{◌∙◌, arith}
use Rattle.std.specs.Vec.{vec_len}
use Rattle.list_format.specs.Line.{ascii_line, line_head}
use Rattle.list_lemmas.proofs.Kept.{appended_both, kept_append, kept_before}
use Rattle.list_format.proofs.AppendLemmas.{appended-3}
use Rattle.list_format.proofs.line.append_line.Goals as goal

pub returns-clause-ok : goal.returns-clause-ok
unfolding ascii_line
returns-clause-ok c =
    appended-3 _ _ _ _ _ _ _ c.in_ok-append_head.ensures.ok c.in_ok-append_fields.ensures.ok
    c.in_ok-extend_from_slice.ensures.items

pub returns-clause-kept : goal.returns-clause-kept
returns-clause-kept c = kept_append _ _ _ _ (omega arith) (returns-clause-ok c)

pub returns-in_err-append_fields-clause-kept : goal.returns-in_err-append_fields-clause-kept
returns-in_err-append_fields-clause-kept c =
    kept_before c.args.out.now.items c.append_head.new.out.items _ _ (vec_len c.args.out.now)
    (vec_len c.append_head.new.out) (omega arith) c.in_ok-append_head.ensures.ok
    c.in_err-append_fields.ensures.kept

pub returns-in_err-extend_from_slice-clause-kept : goal.returns-in_err-extend_from_slice-clause-kept
returns-in_err-extend_from_slice-clause-kept c =
    kept_append _ _ _ _ (omega arith)
    (c.in_err-extend_from_slice.ensures.items
    ∙ appended_both c.args.out.now.items _ _ (line_head c.args.e.now) _
    c.in_ok-append_head.ensures.ok c.in_ok-append_fields.ensures.ok)
