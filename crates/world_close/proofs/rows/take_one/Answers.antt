use Rattle.std.proofs.Common.{refl, length}
use Rattle.std.proofs.lemmas.Option.{slice_get_read}
use Rattle.world_close.proofs.Rowing.{mid_more}
use Rattle.world_close.proofs.rows.take_one.Goals as goal

pub returns-clause-mid : goal.returns-clause-mid
returns-clause-mid g c =
    let rows = c.args.rows.now.items in
    let row = c.index_mut-row.result.now in
    let e = c.in-Some.ensures in
    let p = c.in-Ok.ensures in
    rw p.items (mid_more c.args.k c.args.number g.names rows c.args.column.now.items row
    c.pop.new.self c.in-Some.pass c.requires.1
    (slice_get_read rows (length rows) c.args.k row refl c.requires.0
    c.index_mut-row.ensures.value) e)
