use Rattle.std.proofs.Common.{◌∙◌, ℕ, List, Option, ap, option_map, sym}
use Rattle.order_top.specs.Words.{asking, turns_of}
use Rattle.order_top.proofs.Wording.{asks_none, asks_some, out_of_memory}
use Rattle.order_top.proofs.words.asked_with.Goals as goal

pub returns-then-not-is_turns : goal.returns-then-not-is_turns
returns-then-not-is_turns c =
    asks_none c.args.most (turns_of c.args.first.now)
    (sym c.is_turns.ensures ∙ c.if-not-is_turns.true)

pub returns-in_err-first : goal.returns-in_err-first
returns-in_err-first c =
    out_of_memory (option_map (asking c.args.most) (turns_of c.args.first.now))
    c.from_residual.result
    (asks_some c.args.most (turns_of c.args.first.now)
    (sym c.is_turns.ensures ∙ c.if-not-is_turns.false)) c.from_residual.ensures.1

pub returns-in-Some : goal.returns-in-Some
returns-in-Some c =
    ap (λ (o : Option (List ℕ)). option_map (asking c.args.most) o)
    (sym (rw c.in-Some.is at c.in_ok-first.ensures))

pub returns-in-None : goal.returns-in-None
returns-in-None c =
    ap (λ (o : Option (List ℕ)). option_map (asking c.args.most) o)
    (sym (rw c.in-None.is at c.in_ok-first.ensures))
