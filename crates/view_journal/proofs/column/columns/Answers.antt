use Rattle.std.proofs.Common.{List, get_or, take, ap, ◌∙◌, arith}
use Rattle.report_read.specs.words.declared.event.Event.{Event}
use Rattle.report_read.specs.Draft.{no_span}
use Rattle.report_read.specs.Lines.{birth_event}
use Rattle.view_journal.specs.declared.column.Column.{Column}
use Rattle.view_journal.specs.WalkView.{walk_of}
use Rattle.view_journal.proofs.ColumnsSteps.{columns_all, columns_next}
use Rattle.view_journal.proofs.Small.{held_next, small_next}
use Rattle.view_journal.proofs.column.columns.Goals as goal

pub loop-place-preserved : goal.loop-place-preserved
loop-place-preserved c =
    let e : Event = get_or c.args.journal.now c.loop-place.place (birth_event no_span) in
    let held = held_next (walk_of c.loop-place.walk) (walk_of c.step.new.self) e
    c.in_ok-step.ensures in
    record {
      held = omega (arith, held, c.loop-place.invariant.held);
      small = small_next (walk_of c.loop-place.walk) (walk_of c.step.new.self) e
          c.in_ok-step.ensures c.loop-place.invariant.small
          (omega (arith, c.loop-place.invariant.held));
      same = columns_next c.args.windows.now c.args.journal.now c.loop-place.columns.items
          c.push_column.new.columns.items (walk_of c.loop-place.walk) (walk_of c.step.new.self)
          c.loop-place.hashing c.hashing_after-hashing.result c.state.result c.loop-place.place
          (birth_event no_span) _ (omega arith) c.in_ok-step.ensures
          c.hashing_after-hashing.ensures c.state.ensures c.in_ok-push_column.ensures
          c.loop-place.invariant.same;
    }

pub returns-clause-is : goal.returns-clause-is
returns-clause-is c =
    c.truncate.ensures.items
    ∙ ap (λ (cs : List Column). take 1000 cs)
    (columns_all c.args.windows.now c.args.journal.now c.loop-place.columns.items
    (walk_of c.loop-place.walk) c.loop-place.hashing c.loop-place.place (omega arith)
    c.loop-place.invariant.same)
