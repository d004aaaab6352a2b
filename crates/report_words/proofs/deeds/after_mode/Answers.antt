use Rattle.std.proofs.Common.{Bor, List, ℕ, Option, ap, sym, ◌∙◌}
use Rattle.std.specs.Prelude.{is_some}
use Rattle.report_words.proofs.Firsts.{after_first, after_none, after_other}
use Rattle.report_words.specs.Deeds.{is_mode}
use Rattle.report_words.proofs.deeds.after_mode.Goals as goal

pub returns-in-empty : goal.returns-in-empty
returns-in-empty c =
    after_none (λ (w : Bor (List ℕ)). w.now) is_mode c.args.words.now c.in-empty.len_below

pub returns-then-is_some : goal.returns-then-is_some
returns-then-is_some c =
    after_first (λ (w : Bor (List ℕ)). w.now) is_mode c.args.words.now _
    c.in-len1-up.len_at_least (sym (c.is_some.ensures
    ∙ ap (λ (m : Option ℕ). is_some m) c.mode_of.ensures) ∙ c.if-is_some.true)

pub returns-else-is_some : goal.returns-else-is_some
returns-else-is_some c =
    after_other (λ (w : Bor (List ℕ)). w.now) is_mode c.args.words.now _
    c.in-len1-up.len_at_least (sym (c.is_some.ensures
    ∙ ap (λ (m : Option ℕ). is_some m) c.mode_of.ensures) ∙ c.if-is_some.false)
