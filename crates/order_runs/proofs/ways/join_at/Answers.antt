use Rattle.order_runs.proofs.Joining.{met_at}
use Rattle.order_runs.proofs.ways.join_at.Goals as goal

pub returns-in-Some : goal.returns-in-Some
returns-in-Some c =
    met_at c.args.ways.now.items c.args.place c.args.longer.now c.index.result.now
    c.index_mut.result.now c.in_ok-joined.field-0 c.in-Some.joined _
    c.requires c.index.ensures c.index_mut.ensures.value c.in_ok-joined.ensures c.in-Some.is
