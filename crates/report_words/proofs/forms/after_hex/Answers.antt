use Rattle.std.proofs.Common.{Bor, List, ℕ, sym, ◌∙◌}
use Rattle.report_words.proofs.Firsts.{after_first, after_none, after_other}
use Rattle.report_words.specs.Forms.{is_hex}
use Rattle.report_words.proofs.forms.after_hex.Goals as goal

pub returns-in-empty : goal.returns-in-empty
returns-in-empty c =
    after_none (λ (w : Bor (List ℕ)). w.now) is_hex c.args.words.now c.in-empty.len_below

pub returns-then-is_hex : goal.returns-then-is_hex
returns-then-is_hex c =
    after_first (λ (w : Bor (List ℕ)). w.now) is_hex c.args.words.now _
    c.in-len1-up.len_at_least (sym c.is_hex.ensures ∙ c.if-is_hex.true)

pub returns-else-is_hex : goal.returns-else-is_hex
returns-else-is_hex c =
    after_other (λ (w : Bor (List ℕ)). w.now) is_hex c.args.words.now _
    c.in-len1-up.len_at_least (sym c.is_hex.ensures ∙ c.if-is_hex.false)
