use Rattle.std.proofs.Common.{Bor, List, ℕ, sym, ◌∙◌}
use Rattle.std.specs.Str.{bytes_eq}
use Rattle.report_words.proofs.Firsts.{after_first, after_none, after_other}
use Rattle.report_words.proofs.forms.after.Goals as goal

pub returns-in-empty : goal.returns-in-empty
returns-in-empty c =
    after_none (λ (w : Bor (List ℕ)). w.now) (λ w. bytes_eq w c.args.word.now) c.args.words.now c.in-empty.len_below

pub returns-then-eq : goal.returns-then-eq
returns-then-eq c =
    after_first (λ (w : Bor (List ℕ)). w.now) (λ w. bytes_eq w c.args.word.now) c.args.words.now _
    c.in-len1-up.len_at_least (sym c.eq.ensures ∙ c.if-eq.true)

pub returns-else-eq : goal.returns-else-eq
returns-else-eq c =
    after_other (λ (w : Bor (List ℕ)). w.now) (λ w. bytes_eq w c.args.word.now) c.args.words.now _
    c.in-len1-up.len_at_least (sym c.eq.ensures ∙ c.if-eq.false)
