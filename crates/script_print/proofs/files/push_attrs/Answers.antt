use Rattle.std.proofs.Common.{sym}
use Rattle.std.proofs.lemmas.List.{append-nil}
use Rattle.std.proofs.lemmas.Result.{err_from_is_err_and}
use Rattle.call_lines.specs.Lines.{line_text}
use Rattle.script_spelling.specs.Spelling.{attr_line}
use Rattle.script_spelling.proofs.Pieces.{text_all, text_more}
use Rattle.script_print.proofs.files.push_attrs.Goals as goal

pub loop-attr-init : goal.loop-attr-init
loop-attr-init c = sym (append-nil c.args.out.now.items)

pub loop-attr-preserved : goal.loop-attr-preserved
loop-attr-preserved c =
    text_more (λ a. line_text (attr_line a)) c.args.attrs.now c.loop-attr.attr-index
    c.attr-item.result c.args.out.now.items c.loop-attr.out.items c.push_attr.new.out.items
    c.loop-attr-test.true c.attr-item.is c.loop-attr.invariant
    (rw (c.as_slice.ensures.bytes, c.as_slice-in-loop-attr.ensures.bytes) at c.in_ok-push_attr.ensures)

pub returns-in_err-push_attr : goal.returns-in_err-push_attr
returns-in_err-push_attr c =
    let p = err_from_is_err_and c.from_residual.result c.from_residual.ensures.1 in
    rw (p.1) tt

pub returns : goal.returns
returns c =
    text_all (λ a. line_text (attr_line a)) c.args.attrs.now c.loop-attr.attr-index
    c.args.out.now.items c.loop-attr.out.items c.loop-attr-test.false c.loop-attr.invariant
