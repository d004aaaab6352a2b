use Rattle.std.proofs.Common.{List, [], take, ap, ◌∙◌}
use Rattle.list_lemmas.proofs.Appending.{one_more}
use Rattle.view_layout.specs.declared.flags.Noted.{Noted}
use Rattle.view_layout.specs.Flags.{noted_at}
use Rattle.view_layout.proofs.Appended.{all_there}
use Rattle.view_lanes.proofs.NoItems.{no_column}
use Rattle.view_layout.proofs.flags.notes_of.Goals as goal

pub loop-column-init : goal.loop-column-init
loop-column-init c = c.new-noted.ensures.items

pub loop-column-preserved : goal.loop-column-preserved
loop-column-preserved c =
    one_more [] noted_at c.args.columns.now c.loop-column.column-index no_column
    c.loop-column-test.true c.loop-column.invariant c.in_ok-push_noted.ensures

pub returns-clause-is : goal.returns-clause-is
returns-clause-is c =
    c.truncate.ensures.items
    ∙ ap (λ (ns : List Noted). take 3000 ns)
    (all_there [] noted_at c.args.columns.now c.loop-column.column-index
    c.loop-column-test.false c.loop-column.invariant)
