use Rattle.std.proofs.Common.{◌≡◌, ◌+◌, ◌++◌, drop, get_or, refl}
use Rattle.view_journal.specs.declared.column.Column.{Column}
use Rattle.view_layout.specs.Drawing.{gap_between, gaps_from, gaps_items}
use Rattle.view_lanes.proofs.NoItems.{no_column}
use Rattle.list_lemmas.proofs.Remaining.{none_left, one_less}
use Rattle.view_layout.proofs.events.push_gaps.Goals as goal

pub loop-column-preserved : goal.loop-column-preserved
loop-column-preserved c =
    let column : Column = get_or c.args.columns.now c.loop-column.column-index no_column in
    rw (c.from-next.ensures, c.right_edge-x.ensures.is)
    (one_less c.loop-column.items.items
    (gaps_from c.args.bottom c.args.events c.loop-column.next c.loop-column.x)
    c.args.columns.now c.loop-column.column-index no_column
    (gap_between c.args.bottom c.loop-column.next c.loop-column.x column.place)
    (gaps_from c.args.bottom c.args.events (column.place + 1) (column.x + 30)
    (drop (c.loop-column.column-index + 1) c.args.columns.now))
    c.loop-column-test.true refl c.loop-column.invariant
    (rw c.from.ensures at c.in_ok-push_gap.ensures))

pub returns : goal.returns
returns c =
    let all : c.loop-column.items.items
    ++ gap_between c.args.bottom c.loop-column.next c.loop-column.x c.args.events
    ≡ c.args.items.now.items ++ gaps_items c.args.bottom c.args.events c.args.columns.now
    = none_left c.loop-column.items.items
    (gaps_from c.args.bottom c.args.events c.loop-column.next c.loop-column.x)
    c.args.columns.now c.loop-column.column-index c.loop-column-test.false
    c.loop-column.invariant in
    rw all at c.push_gap-2.ensures
