use Rattle.std.proofs.Common.{Bor, List, ℕ, sym, ◌∙◌}
use Rattle.report_words.proofs.Firsts.{after_first, after_none, after_other}
use Rattle.report_words.specs.Forms.{is_named_digest}
use Rattle.report_words.proofs.forms.after_named_digest.Goals as goal

pub returns-in-empty : goal.returns-in-empty
returns-in-empty c =
    after_none (λ (w : Bor (List ℕ)). w.now) is_named_digest c.args.words.now c.in-empty.len_below

pub returns-then-is_named_digest : goal.returns-then-is_named_digest
returns-then-is_named_digest c =
    after_first (λ (w : Bor (List ℕ)). w.now) is_named_digest c.args.words.now _
    c.in-len1-up.len_at_least (sym c.is_named_digest.ensures ∙ c.if-is_named_digest.true)

pub returns-else-is_named_digest : goal.returns-else-is_named_digest
returns-else-is_named_digest c =
    after_other (λ (w : Bor (List ℕ)). w.now) is_named_digest c.args.words.now _
    c.in-len1-up.len_at_least (sym c.is_named_digest.ensures ∙ c.if-is_named_digest.false)
