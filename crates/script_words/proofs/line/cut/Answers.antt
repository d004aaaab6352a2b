use Rattle.std.proofs.Common.{sym}
use Rattle.std.proofs.lemmas.List.{take_rest}
use Rattle.script_words.proofs.Cutting.{cut_missed, cut_found, split_at_cut}
use Rattle.script_words.proofs.line.cut.Goals as goal

pub returns-in_err-at-clause-value : goal.returns-in_err-at-clause-value
returns-in_err-at-clause-value c =
    rw c.from_residual.ensures (sym (cut_missed _ _ c.in_err-at.ensures))

pub returns-in_err-at-clause-parts : goal.returns-in_err-at-clause-parts
returns-in_err-at-clause-parts c =
    rw c.from_residual.ensures
    (rw (cut_missed _ _ c.in_err-at.ensures) at (split_at_cut c.args.separator c.args.text.now))

pub returns-clause-value : goal.returns-clause-value
returns-clause-value c = rw (take_rest c.args.text.now) (sym (cut_found _ _ _ c.in_ok-at.ensures))

pub returns-clause-parts : goal.returns-clause-parts
returns-clause-parts c =
    rw (take_rest c.args.text.now)
    (rw (cut_found _ _ _ c.in_ok-at.ensures) at (split_at_cut c.args.separator c.args.text.now))
