-- The line of a register is kept.
use Rattle.std.proofs.Common.{refl, sym, ◌∙◌}
use Rattle.std.proofs.lemmas.Bool.{eq-eqb}
use Rattle.std.proofs.lemmas.Result.{err_from_is_err_and}
use Rattle.report_draft.proofs.draft.Draft.with_sha256.Goals as goal

pub returns-in_err-push : goal.returns-in_err-push
returns-in_err-push c =
    let p = err_from_is_err_and c.from_residual.result c.from_residual.ensures.1 in
    rw (p.1, p.2) tt

pub returns : goal.returns
returns c =
    let is = sym c.register_of.ensures ∙ c.in-Some.is in
    let same = eq-eqb c.in-Some.second c.args.pcr c.if-second-pcr.false in
    rw (← c.self.view_is, is, same, c.in_ok-push.ensures.items) refl
