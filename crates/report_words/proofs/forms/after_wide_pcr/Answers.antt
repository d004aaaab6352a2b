use Rattle.std.proofs.Common.{Bor, List, ℕ, sym, ◌∙◌}
use Rattle.report_words.proofs.Firsts.{after_first, after_none, after_other}
use Rattle.report_words.specs.Forms.{is_wide_pcr}
use Rattle.report_words.proofs.forms.after_wide_pcr.Goals as goal

pub returns-in-empty : goal.returns-in-empty
returns-in-empty c =
    after_none (λ (w : Bor (List ℕ)). w.now) (is_wide_pcr c.args.width) c.args.words.now c.in-empty.len_below

pub returns-then-is_wide_pcr : goal.returns-then-is_wide_pcr
returns-then-is_wide_pcr c =
    after_first (λ (w : Bor (List ℕ)). w.now) (is_wide_pcr c.args.width) c.args.words.now _
    c.in-len1-up.len_at_least (sym c.is_wide_pcr.ensures ∙ c.if-is_wide_pcr.true)

pub returns-else-is_wide_pcr : goal.returns-else-is_wide_pcr
returns-else-is_wide_pcr c =
    after_other (λ (w : Bor (List ℕ)). w.now) (is_wide_pcr c.args.width) c.args.words.now _
    c.in-len1-up.len_at_least (sym c.is_wide_pcr.ensures ∙ c.if-is_wide_pcr.false)
