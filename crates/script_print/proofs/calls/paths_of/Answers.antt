use Rattle.std.proofs.Common.{ℕ, Bor, List, map, ap, ◌∙◌}
use Rattle.std.proofs.lemmas.List.{take_all}
use Rattle.std.proofs.lemmas.Result.{err_from_is_err_and}
use Rattle.script_text.specs.declared.blocks.FileBlock.{FileBlock}
use Rattle.script_text.specs.Forms.{path_of_block}
use Rattle.script_spelling.proofs.Pieces.{map_more}
use Rattle.script_print.proofs.calls.paths_of.Goals as goal

pub loop-file-init : goal.loop-file-init
loop-file-init c = ap (λ (ps : List (Bor (List ℕ))). map (λ p. p.now) ps) c.new-paths.ensures.items

pub loop-file-preserved : goal.loop-file-preserved
loop-file-preserved c =
    map_more path_of_block (λ (p : Bor (List ℕ)). p.now) c.args.files.now c.loop-file.file-index
    c.file-item.result c.loop-file.paths.items c.push.new.self.items c.as_slice.result
    c.loop-file-test.true c.file-item.is c.in_ok-push.ensures.items c.as_slice.ensures.bytes
    c.loop-file.invariant

pub returns-in_err-push : goal.returns-in_err-push
returns-in_err-push c =
    let p = err_from_is_err_and c.from_residual.result c.from_residual.ensures.1 in
    rw (p.1) tt

pub returns : goal.returns
returns c =
    c.loop-file.invariant
    ∙ ap (λ (fs : List FileBlock). map path_of_block fs)
    (take_all c.loop-file.file-index c.args.files.now c.loop-file-test.false)
