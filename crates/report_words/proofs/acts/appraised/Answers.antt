use Rattle.std.proofs.Common.{Bor, List, ℕ, refl, sym, ◌∙◌}
use Rattle.report_words.proofs.Firsts.{first_left, first_left_out}
use Rattle.report_words.specs.Deeds.{appraised, is_appraise}
use Rattle.report_words.proofs.acts.appraised.Goals as goal

pub returns-then-is_among : goal.returns-then-is_among
returns-then-is_among c =
    first_left_out (λ (w : Bor (List ℕ)). w.now) is_appraise appraised (λ w ws. refl)
    c.args.words.now _ c.in-len1-up.len_at_least (sym c.is_among.ensures ∙ c.if-is_among.true)

pub returns-else-is_among : goal.returns-else-is_among
returns-else-is_among c =
    first_left (λ (w : Bor (List ℕ)). w.now) is_appraise appraised (λ w ws. refl)
    c.args.words.now _ c.in-len1-up.len_at_least (sym c.is_among.ensures ∙ c.if-is_among.false)
