use Rattle.std.proofs.Common.{Bor, List, ℕ, Some, refl, sym, ◌∙◌}
use Rattle.report_words.proofs.Firsts.{next_given, nothing_next}
use Rattle.report_words.specs.Forms.{who_in, who_of}
use Rattle.report_words.proofs.forms.who_in.Goals as goal

pub returns-in_err-who-in-len1-up : goal.returns-in_err-who-in-len1-up
returns-in_err-who-in-len1-up c =
    rw c.from_residual.ensures
    (nothing_next (λ (w : Bor (List ℕ)). w.now) who_of (λ a ws. Some (a, ws)) who_in
    (λ w ws. refl) c.args.words.now _
    c.in-len1-up.len_at_least (sym c.who_of.ensures ∙ c.in_err-who-in-len1-up.was))

pub returns-in_ok-who-in-len1-up : goal.returns-in_ok-who-in-len1-up
returns-in_ok-who-in-len1-up c =
    next_given (λ (w : Bor (List ℕ)). w.now) who_of (λ a ws. Some (a, ws)) who_in
    (λ w ws. refl) c.args.words.now _
    c.in_ok-who-in-len1-up.who c.in-len1-up.len_at_least
    (sym c.who_of.ensures ∙ c.in_ok-who-in-len1-up.was)
