use Rattle.std.proofs.Common.{Bor, List, ℕ, Some, refl, sym, ◌∙◌}
use Rattle.report_words.proofs.Firsts.{next_given, nothing_next}
use Rattle.report_words.specs.Forms.{number_in, number}
use Rattle.report_words.proofs.forms.number_in.Goals as goal

pub returns-in_err-number-in-len1-up : goal.returns-in_err-number-in-len1-up
returns-in_err-number-in-len1-up c =
    rw c.from_residual.ensures
    (nothing_next (λ (w : Bor (List ℕ)). w.now) number (λ a ws. Some (a, ws)) number_in
    (λ w ws. refl) c.args.words.now _
    c.in-len1-up.len_at_least (sym c.number.ensures ∙ c.in_err-number-in-len1-up.was))

pub returns-in_ok-number-in-len1-up : goal.returns-in_ok-number-in-len1-up
returns-in_ok-number-in-len1-up c =
    next_given (λ (w : Bor (List ℕ)). w.now) number (λ a ws. Some (a, ws)) number_in
    (λ w ws. refl) c.args.words.now _
    c.in_ok-number-in-len1-up.number c.in-len1-up.len_at_least
    (sym c.number.ensures ∙ c.in_ok-number-in-len1-up.was)
