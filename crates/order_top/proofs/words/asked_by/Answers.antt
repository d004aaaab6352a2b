use Rattle.std.proofs.Common.{ℕ, Option, ap, option_and_then, option_map, subst, sym}
use Rattle.order_top.specs.Words.{IsAsked, asking, turns_of}
use Rattle.order_top.proofs.words.asked_by.Goals as goal

pub returns-in-Some : goal.returns-in-Some
returns-in-Some c =
    subst (λ (o : Option ℕ). IsAsked
    (option_and_then (λ n. option_map (asking n) (turns_of c.args.first.now)) o)
    c.asked_with.result) c.in-Some.ensures c.asked_with.ensures

pub returns-in-None : goal.returns-in-None
returns-in-None c =
    ap (λ (o : Option ℕ).
    option_and_then (λ n. option_map (asking n) (turns_of c.args.first.now)) o)
    (sym c.in-None.ensures)
