use Rattle.std.proofs.Common.{Bor, List, ℕ, map, sym, ◌∙◌}
use Rattle.report_words.proofs.Firsts.{after_first, after_none, after_other}
use Rattle.report_words.specs.Forms.{is_among}
use Rattle.report_words.proofs.tables.after_one_of.Goals as goal

pub returns-in-empty : goal.returns-in-empty
returns-in-empty c =
    after_none (λ (w : Bor (List ℕ)). w.now)
    (λ w. is_among (map (λ (t : Bor (List ℕ)). t.now) c.args.table.now) w) c.args.words.now c.in-empty.len_below

pub returns-then-is_among : goal.returns-then-is_among
returns-then-is_among c =
    after_first (λ (w : Bor (List ℕ)). w.now)
    (λ w. is_among (map (λ (t : Bor (List ℕ)). t.now) c.args.table.now) w) c.args.words.now _
    c.in-len1-up.len_at_least (sym c.is_among.ensures ∙ c.if-is_among.true)

pub returns-else-is_among : goal.returns-else-is_among
returns-else-is_among c =
    after_other (λ (w : Bor (List ℕ)). w.now)
    (λ w. is_among (map (λ (t : Bor (List ℕ)). t.now) c.args.table.now) w) c.args.words.now _
    c.in-len1-up.len_at_least (sym c.is_among.ensures ∙ c.if-is_among.false)
