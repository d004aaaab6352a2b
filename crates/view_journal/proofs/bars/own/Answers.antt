use Rattle.std.proofs.Common.{length, ap, ◌∙◌, arith}
use Rattle.std.proofs.lemmas.List.{length_push}
use Rattle.view_journal.proofs.OwnBars.{no_bar, other_next, own_all, own_next}
use Rattle.view_journal.proofs.bars.own.Goals as goal
use Rattle.view_journal.proofs.bars.own.Goals.{then-bar-task+in_ok-push, else-bar-task}

pub loop-bar-preserved : goal.loop-bar-preserved
loop-bar-preserved c =
    elim c.if-bar-task.branch [
      | then-bar-task+in_ok-push w ↦ rw w.own-is record {
        few = omega (
          arith,
          ap length w.in_ok-push.ensures.items ∙ length_push c.loop-bar.own.items _,
          c.loop-bar.invariant.few,
        );
        same = own_next c.args.task c.args.bars.now c.loop-bar.bar-index no_bar
            c.loop-bar.own.items w.push.new.self.items _ c.loop-bar-test.true
            w.if-bar-task.true w.in_ok-push.ensures.items c.loop-bar.invariant.same;
      }
      | else-bar-task w ↦ rw w.own-is record {
        few = omega (arith, c.loop-bar.invariant.few);
        same = other_next c.args.task c.args.bars.now c.loop-bar.bar-index no_bar
            c.loop-bar.own.items _ c.loop-bar-test.true w.if-bar-task.false
            c.loop-bar.invariant.same;
      }
    ]

pub returns-clause-is : goal.returns-clause-is
returns-clause-is c =
    own_all c.args.task c.args.bars.now c.loop-bar.bar-index c.loop-bar.own.items _
    c.loop-bar-test.false c.loop-bar.invariant.same
