use Rattle.std.proofs.Common.{sym}
use Rattle.std.proofs.lemmas.List.{append-nil}
use Rattle.std.proofs.lemmas.Result.{err_from_is_err_and}
use Rattle.call_lines.specs.Lines.{line_text}
use Rattle.script_spelling.specs.Spelling.{super_line}
use Rattle.script_spelling.proofs.Pieces.{text_all, text_more}
use Rattle.script_print.proofs.settings.push_supers.Goals as goal

pub loop-fs-init : goal.loop-fs-init
loop-fs-init c = sym (append-nil c.args.out.now.items)

pub loop-fs-preserved : goal.loop-fs-preserved
loop-fs-preserved c =
    text_more (λ s. line_text (super_line s)) c.args.supers.now c.loop-fs.fs-index c.fs-item.result
    c.args.out.now.items c.loop-fs.out.items c.push_super.new.out.items c.loop-fs-test.true
    c.fs-item.is c.loop-fs.invariant c.in_ok-push_super.ensures

pub returns-in_err-push_super : goal.returns-in_err-push_super
returns-in_err-push_super c =
    let p = err_from_is_err_and c.from_residual.result c.from_residual.ensures.1 in
    rw (p.1) tt

pub returns : goal.returns
returns c =
    text_all (λ s. line_text (super_line s)) c.args.supers.now c.loop-fs.fs-index
    c.args.out.now.items c.loop-fs.out.items c.loop-fs-test.false c.loop-fs.invariant
