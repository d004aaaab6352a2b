-- The line of an entry is kept, and one less is left.
use Rattle.std.proofs.Common.{refl, sym, ◌∙◌}
use Rattle.std.proofs.lemmas.Result.{err_from_is_err_and}
use Rattle.report_draft.proofs.draft.Draft.with_entry.Goals as goal

pub returns-in_err-push : goal.returns-in_err-push
returns-in_err-push c =
    let p = err_from_is_err_and c.from_residual.result c.from_residual.ensures.1 in
    rw (p.1, p.2) tt

pub returns : goal.returns
returns c =
    let is = sym c.is_entry.ensures ∙ c.if-not-is_entry.false in
    rw (
      ← c.self.view_is,
      is,
      c.entries_left-self-inside.ensures,
      c.saturating_sub.ensures,
      c.in_ok-push.ensures.items,
    ) refl
