use Rattle.std.proofs.Common.{Bool, cond, Some, None, sym, ◌∙◌, ap, arith}
use Rattle.audit_trail.proofs.Asking.{asks_none, asks_past, asks_within}
use Rattle.audit_trail.proofs.asked.asking_line.Goals as goal

pub returns-in_default : goal.returns-in_default
returns-in_default c = λ f a e.
    sym (asks_none f c.args.rules.now c.args.count a (sym e ∙ c.in_default.is))

pub returns-then-line-count : goal.returns-then-line-count
returns-then-line-count c = λ f a e.
    sym (asks_past f c.args.rules.now c.args.count a c.in-Some.line (sym e ∙ c.in-Some.is)
    (omega (arith, c.if-line-count.true)))

pub returns-then-asks : goal.returns-then-asks
returns-then-asks c = λ f a e.
    sym (asks_within f c.args.rules.now c.args.count a c.in-Some.line (sym e ∙ c.in-Some.is)
    (omega (arith, c.if-line-count.false))
    ∙ ap (λ (b : Bool). cond b (Some c.in-Some.line) None)
    (sym c.asks.ensures ∙ c.if-asks.true))

pub returns-else-asks : goal.returns-else-asks
returns-else-asks c = λ f a e.
    sym (asks_within f c.args.rules.now c.args.count a c.in-Some.line (sym e ∙ c.in-Some.is)
    (omega (arith, c.if-line-count.false))
    ∙ ap (λ (b : Bool). cond b (Some c.in-Some.line) None)
    (sym c.asks.ensures ∙ c.if-asks.false))
