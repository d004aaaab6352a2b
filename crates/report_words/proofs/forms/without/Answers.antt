use Rattle.std.proofs.Common.{Bor, List, ℕ, refl, sym, ◌∙◌}
use Rattle.std.specs.Str.{bytes_eq}
use Rattle.report_words.proofs.Firsts.{first_left, first_left_out}
use Rattle.report_words.specs.Forms.{without}
use Rattle.report_words.proofs.forms.without.Goals as goal

pub returns-then-eq : goal.returns-then-eq
returns-then-eq c =
    first_left_out (λ (w : Bor (List ℕ)). w.now) (λ w. bytes_eq w c.args.word.now)
    (without c.args.word.now) (λ w ws. refl) c.args.words.now _
    c.in-len1-up.len_at_least (sym c.eq.ensures ∙ c.if-eq.true)

pub returns-else-eq : goal.returns-else-eq
returns-else-eq c =
    first_left (λ (w : Bor (List ℕ)). w.now) (λ w. bytes_eq w c.args.word.now)
    (without c.args.word.now) (λ w ws. refl) c.args.words.now _
    c.in-len1-up.len_at_least (sym c.eq.ensures ∙ c.if-eq.false)
