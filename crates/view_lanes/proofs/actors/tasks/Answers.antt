use Rattle.std.proofs.Common.{ℕ, ◌+◌, List, drop, length, ap, sym, ◌∙◌, arith}
use Rattle.std.proofs.lemmas.List.{at_drop_all, at_drop_more}
use Rattle.view_lanes.specs.Lanes.{tasks_from}
use Rattle.view_lanes.proofs.NoItems.{no_column}
use Rattle.view_lanes.proofs.actors.tasks.Goals as goal

pub loop-column-init : goal.loop-column-init
loop-column-init c = record {
  few = omega (arith, ap length c.new-tasks.ensures.items);
  same = ap (λ (ts : List ℕ). tasks_from ts c.args.columns.now) c.new-tasks.ensures.items;
}

pub loop-column-preserved : goal.loop-column-preserved
loop-column-preserved c =
    let i : ℕ = c.loop-column.column-index in
    record {
      few = omega (arith, c.in_ok-add_actor.ensures.few, c.loop-column.invariant.few);
      same = ap (λ (ts : List ℕ). tasks_from ts (drop (i + 1) c.args.columns.now))
          c.in_ok-add_actor.ensures.is
          ∙ (sym (at_drop_more (tasks_from c.loop-column.tasks.items) c.args.columns.now i
          no_column c.loop-column-test.true)
          ∙ c.loop-column.invariant.same);
    }

pub returns-clause-is : goal.returns-clause-is
returns-clause-is c =
    sym (at_drop_all (tasks_from c.loop-column.tasks.items) c.args.columns.now
    c.loop-column.column-index c.loop-column-test.false)
    ∙ c.loop-column.invariant.same
