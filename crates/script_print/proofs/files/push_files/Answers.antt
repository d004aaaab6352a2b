use Rattle.std.proofs.Common.{sym}
use Rattle.std.proofs.lemmas.List.{append-nil}
use Rattle.std.proofs.lemmas.Result.{err_from_is_err_and}
use Rattle.call_lines.specs.Lines.{lines_text}
use Rattle.script_spelling.specs.Spelling.{file_lines}
use Rattle.script_spelling.proofs.Pieces.{text_all, text_more}
use Rattle.script_print.proofs.files.push_files.Goals as goal

pub loop-file-init : goal.loop-file-init
loop-file-init c = sym (append-nil c.args.out.now.items)

pub loop-file-preserved : goal.loop-file-preserved
loop-file-preserved c =
    text_more (λ f. lines_text (file_lines f)) c.args.files.now c.loop-file.file-index
    c.file-item.result c.args.out.now.items c.loop-file.out.items c.push_file.new.out.items
    c.loop-file-test.true c.file-item.is c.loop-file.invariant c.in_ok-push_file.ensures

pub returns-in_err-push_file : goal.returns-in_err-push_file
returns-in_err-push_file c =
    let p = err_from_is_err_and c.from_residual.result c.from_residual.ensures.1 in
    rw (p.1) tt

pub returns : goal.returns
returns c =
    text_all (λ f. lines_text (file_lines f)) c.args.files.now c.loop-file.file-index
    c.args.out.now.items c.loop-file.out.items c.loop-file-test.false c.loop-file.invariant
