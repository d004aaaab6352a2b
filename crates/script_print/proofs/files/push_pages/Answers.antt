use Rattle.std.proofs.Common.{List, ℕ, ◌∙◌, ap, ◌++◌}
use Rattle.std.specs.Prelude.{codes}
use Rattle.std.specs.List.{concat}
use Rattle.std.proofs.lemmas.List.{take_all}
use Rattle.std.proofs.lemmas.Result.{err_from_is_err_and}
use Rattle.hex.specs.Hex.{encode_lower, encode_with}
use Rattle.script_print.proofs.HexPages.{digits_more}
use Rattle.script_print.proofs.files.push_pages.Goals as goal

pub loop-page-init : goal.loop-page-init
unfolding encode_with
loop-page-init c = c.in_ok-extend_from_slice.ensures.items

pub loop-page-preserved : goal.loop-page-preserved
loop-page-preserved c =
    c.in_ok-push_hex.ensures
    ∙ ap (λ p. c.loop-page.out.items ++ encode_lower p) c.as_slice.ensures.bytes
    ∙ digits_more c.loop-page.out.items c.args.out.now.items (codes " content=hex:")
    c.page-item.result c.pages-pages.result.now c.loop-page.page-index c.loop-page-test.true
    c.page-item.is c.loop-page.invariant

pub returns-in_err-extend_from_slice : goal.returns-in_err-extend_from_slice
returns-in_err-extend_from_slice c =
    let p = err_from_is_err_and c.from_residual.result c.from_residual.ensures.1 in
    rw (p.1) tt

pub returns-in_err-push_hex : goal.returns-in_err-push_hex
returns-in_err-push_hex c =
    let p = err_from_is_err_and c.from_residual-in_err-push_hex.result
    c.from_residual-in_err-push_hex.ensures.1 in
    rw (p.1) tt

pub returns : goal.returns
returns c =
    c.loop-page.invariant
    ∙ ap (λ (l : List (List ℕ)). c.args.out.now.items
    ++ (codes " content=hex:" ++ encode_lower (concat l)))
    (take_all c.loop-page.page-index c.pages-pages.result.now c.loop-page-test.false)
    ∙ ap (λ (b : List ℕ). c.args.out.now.items ++ (codes " content=hex:" ++ encode_lower b))
    c.pages-pages.ensures.bytes
