use Rattle.std.proofs.Common.{◌≡◌, List, Option, None, sym, subst}
use Rattle.std.specs.Prelude.{MatchOption}
use Rattle.order_runs.specs.Steps.{IsRoot, opening}
use Rattle.order_runs.specs.Tables.{IsTable}
use Rattle.order_runs.specs.declared.rows.Row.{Row}
use Rattle.order_runs.specs.declared.ways.Way.{Way}
use Rattle.order_runs.proofs.Stopping.{no_rows}
use Rattle.order_runs.proofs.rows.rows_of.Goals as goal

pub rows_from-requires-clause-root : goal.rows_from-requires-clause-root
rows_from-requires-clause-root c =
    subst (λ (o : Option Way). MatchOption o (opening c.args.part.now ≡ None)
    (IsRoot c.args.part.now)) c.in-Some.is c.in_ok-way.ensures

pub returns-in-None-clause-rows : goal.returns-in-None-clause-rows
returns-in-None-clause-rows c =
    subst (λ (rows : List Row). IsTable c.args.part.now.play c.args.part.now.first.items rows)
    (sym c.new.ensures.items)
    (no_rows c.args.part.now.play c.args.part.now.first.items
    (subst (λ (o : Option Way). MatchOption o (opening c.args.part.now ≡ None)
    (IsRoot c.args.part.now)) c.in-None.is c.in_ok-way.ensures))
