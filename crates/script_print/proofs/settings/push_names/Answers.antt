use Rattle.std.proofs.Common.{sym}
use Rattle.std.proofs.lemmas.List.{append-nil}
use Rattle.std.proofs.lemmas.Result.{err_from_is_err_and}
use Rattle.call_lines.specs.Lines.{line_text}
use Rattle.script_spelling.specs.Spelling.{name_line}
use Rattle.script_spelling.proofs.Pieces.{text_all, text_more}
use Rattle.script_print.proofs.settings.push_names.Goals as goal

pub loop-name-init : goal.loop-name-init
loop-name-init c = sym (append-nil c.args.out.now.items)

pub loop-name-preserved : goal.loop-name-preserved
loop-name-preserved c =
    text_more (λ w. line_text (name_line w)) c.args.names.now c.loop-name.name-index
    c.name-item.result c.args.out.now.items c.loop-name.out.items c.push_line.new.out.items
    c.loop-name-test.true c.name-item.is c.loop-name.invariant
    (rw c.as_slice.ensures.bytes at c.in_ok-push_line.ensures)

pub returns-in_err-push_line : goal.returns-in_err-push_line
returns-in_err-push_line c =
    let p = err_from_is_err_and c.from_residual.result c.from_residual.ensures.1 in
    rw (p.1) tt

pub returns : goal.returns
returns c =
    text_all (λ w. line_text (name_line w)) c.args.names.now c.loop-name.name-index
    c.args.out.now.items c.loop-name.out.items c.loop-name-test.false c.loop-name.invariant
