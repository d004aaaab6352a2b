use Rattle.std.proofs.Common.{◌∙◌, ℕ, List, Option, ap, is_some, sym}
use Rattle.order_top.proofs.Wording.{turns_few, turns_many, turns_none}
use Rattle.order_top.proofs.words.is_turns.Goals as goal

pub returns-then-is_empty : goal.returns-then-is_empty
returns-then-is_empty c =
    ap (λ (o : Option (List ℕ)). is_some o)
    (sym (turns_none c.args.word.now (sym c.is_empty.ensures ∙ c.if-is_empty.true)))

pub returns-then-not-are_few : goal.returns-then-not-are_few
returns-then-not-are_few c =
    ap (λ (o : Option (List ℕ)). is_some o)
    (turns_many c.args.word.now (sym c.is_empty.ensures ∙ c.if-is_empty.false)
    (sym c.are_few.ensures ∙ c.if-not-are_few.true))

pub returns : goal.returns
returns c =
    c.are_tasks.ensures
    ∙ ap (λ (o : Option (List ℕ)). is_some o)
    (turns_few c.args.word.now (sym c.is_empty.ensures ∙ c.if-is_empty.false)
    (sym c.are_few.ensures ∙ c.if-not-are_few.false))
