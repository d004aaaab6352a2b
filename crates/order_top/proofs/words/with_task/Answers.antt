use Rattle.std.proofs.Common.{◌∙◌, ◌++◌, ◌∷◌, [], ℕ, Some, ap, option_map}
use Rattle.order_top.proofs.words.with_task.Goals as goal

pub returns-in_ok-push-in-Some : goal.returns-in_ok-push-in-Some
returns-in_ok-push-in-Some c =
    ap Some c.in_ok-push-in-Some.ensures.items
    ∙ ap (option_map (λ (n : ℕ). c.args.tasks.items ++ n ∷ [])) c.in-Some.ensures

pub returns-in-None : goal.returns-in-None
returns-in-None c =
    ap (option_map (λ (n : ℕ). c.args.tasks.items ++ n ∷ [])) c.in-None.ensures
