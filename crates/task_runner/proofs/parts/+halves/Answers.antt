-- Both halves have few enough parts, and the parts of the halves are those of all tasks.
use Rattle.std.proofs.Common.{◌-◌, ◌/◌, ◌++◌, List, length, sym, subst, arith}
use Rattle.std.proofs.lemmas.Result.{on_ok_weaker}
use Rattle.std.specs.Prelude.{All}
use Rattle.task_core.specs.worlds.Tasks.{IsTask, Tasked}
use Rattle.task_runner.proofs.Going.{gone_both}
use Rattle.task_runner.proofs.Passing.{all_both, halves_fit, over_alone, over_both}
use Rattle.task_runner.specs.Parts.{HaveGone}
use Rattle.task_runner.specs.Passes.{AreOver}
use Rattle.task_runner.proofs.parts.+halves.Goals as goal

pub run_halves-returns-then-count-eq1-clause-parts :
    goal.run_halves-returns-then-count-eq1-clause-parts
run_halves-returns-then-count-eq1-clause-parts g t c =
    on_ok_weaker c.run_part.result
    (over_alone g.N.Name.consts c.args.count c.args.size c.args.tasks.now c.run_part.new.tasks
    c.if-count-eq1.true c.requires.most)
    c.run_part.ensures.over

pub run_halves-run_both-requires-clause-most : goal.run_halves-run_both-requires-clause-most
run_halves-run_both-requires-clause-most g t c κs within =
    halves_fit (c.args.count / 2) c.args.count c.args.size c.saturating_mul.result c.min-cut.result
    (length c.split_at_mut-front.result.0.now) (length c.split_at_mut-front.result.1.now)
    (length c.args.tasks.now) (omega arith) c.saturating_mul.ensures c.min-cut.ensures
    c.split_at_mut-front.ensures.front_len c.split_at_mut-front.ensures.back_len c.requires.most
    (omega arith)

pub run_halves-run_both-requires-clause-tasks : goal.run_halves-run_both-requires-clause-tasks
run_halves-run_both-requires-clause-tasks g t c κs within =
    all_both (IsTask g.N.Name.consts) c.split_at_mut-front.result.0.now
    c.split_at_mut-front.result.1.now
    (subst (λ (l : List Tasked). All (IsTask g.N.Name.consts) l)
    c.split_at_mut-front.ensures.value c.requires.tasks)

pub run_halves-returns-clause-gone : goal.run_halves-returns-clause-gone
run_halves-returns-clause-gone g t c =
    subst (λ (old : List Tasked). HaveGone g.N.Name.consts old
    (c.run_both.new.front ++ c.run_both.new.back)) (sym c.split_at_mut-front.ensures.value)
    (gone_both g.N.Name.consts c.split_at_mut-front.result.0.now c.split_at_mut-front.result.1.now
    c.run_both.new.front c.run_both.new.back c.run_both.ensures.front c.run_both.ensures.back)

pub run_halves-returns-clause-parts : goal.run_halves-returns-clause-parts
run_halves-returns-clause-parts g t c =
    let consts = g.N.Name.consts in
    let cut = c.split_at_mut-front in
    let low = c.args.count / 2 in
    let size = c.args.size in
    let new = c.run_both.new.front ++ c.run_both.new.back in
    on_ok_weaker c.run_both.result
    (λ (both : AreOver consts low size cut.result.0.now c.run_both.new.front
    × AreOver consts (c.args.count - low) size cut.result.1.now c.run_both.new.back).
    subst (λ (old : List Tasked). AreOver consts c.args.count size old new)
    (sym cut.ensures.value)
    (over_both consts low (c.args.count - low) c.args.count size cut.result.0.now
    cut.result.1.now c.run_both.new.front c.run_both.new.back (omega arith) both.0 both.1))
    c.run_both.ensures.parts
