use Rattle.std.proofs.Common.{◌≡◌, length}
use Rattle.world_close.specs.Rows.{RowsMid}
use Rattle.world_close.proofs.rows.take_last.Given as goal

abbrev pub ghost-take_one : goal.ghost-take_one
ghost-take_one g a = g.names

abbrev pub invariant-loop-k : goal.invariant-loop-k
invariant-loop-k g l = record {
  end : l.k-end ≡ length l.rows.items;
  count : length l.rows.items ≡ length l.fn.rows.items;
  mid : RowsMid l.k l.number g.names l.rows.items l.column.items;
}
