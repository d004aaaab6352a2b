use Rattle.std.proofs.Common.{List, [], ◌∷◌, ◌++◌, ◌∙◌, ap}
use Rattle.order_runs.specs.declared.ways.Way.{Way}
use Rattle.order_runs.proofs.rows.first_layer.Goals as goal

pub returns : goal.returns
returns c =
    c.in_ok-push.ensures.items
    ∙ ap (λ (ways : List Way). ways ++ c.args.way ∷ []) c.new-layer.ensures.items
