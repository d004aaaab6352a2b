use Rattle.std.proofs.Common.{Bor, List, ℕ, Some, refl, sym, ◌∙◌, ap}
use Rattle.report_words.proofs.Firsts.{next_given, nothing_next}
use Rattle.report_words.specs.Deeds.{count_by, count_in, kind_of}
use Rattle.report_words.specs.Forms.{Words}
use Rattle.report_words.specs.declared.event.Deed.{Deed}
use Rattle.report_words.proofs.deeds.count_in.Goals as goal

pub returns-in_err-kind-in-len1-up : goal.returns-in_err-kind-in-len1-up
returns-in_err-kind-in-len1-up c =
    rw c.from_residual.ensures
    (nothing_next (λ (w : Bor (List ℕ)). w.now) kind_of (λ k ws. Some (count_by k ws)) count_in (λ w ws. refl)
    c.args.words.now _ c.in-len1-up.len_at_least
    (sym c.kind_of.ensures ∙ c.in_err-kind-in-len1-up.was))

pub returns-in_ok-kind-in-len1-up : goal.returns-in_ok-kind-in-len1-up
returns-in_ok-kind-in-len1-up c =
    ap (λ (p : Deed × Words). Some p) c.count_by.ensures
    ∙ next_given (λ (w : Bor (List ℕ)). w.now) kind_of (λ k ws. Some (count_by k ws)) count_in (λ w ws. refl)
    c.args.words.now _ c.in_ok-kind-in-len1-up.kind c.in-len1-up.len_at_least
    (sym c.kind_of.ensures ∙ c.in_ok-kind-in-len1-up.was)
