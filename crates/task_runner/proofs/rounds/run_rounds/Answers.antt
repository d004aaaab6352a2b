-- One more round, or the last one.
use Rattle.std.proofs.Common.{◌≡◌, Bool, true, false, refl, subst, arith, rules}
use Rattle.task_core.specs.worlds.WorldRuns.{IsRound, moment_in, scene_in}
use Rattle.task_core.proofs.about_worlds.Rounding.{round_is_more, rounds_are_over}
use Rattle.task_core.proofs.about_worlds.Turning.{same_run_more}
use Rattle.task_core.proofs.SharedSteps.{on_err}
use Rattle.task_runner.specs.Stops.{StopsInRounds}
use Rattle.task_runner.proofs.Running.{none_moves, same_run_here}
use Rattle.task_runner.proofs.Stopped.{stops_after, stops_in_next}
use Rattle.task_runner.proofs.rounds.run_rounds.Goals as goal

pub loop-init : goal.loop-init
loop-init g c = record {
  still = same_run_here c.args.world.now c.args.tasks.now.items c.requires;
  run = refl;
  before = λ k h. absurd (omega arith);
}

pub round-requires : goal.round-requires
round-requires g c = c.loop.invariant.still.each

pub returns-in_err-round-clause-still : goal.returns-in_err-round-clause-still
returns-in_err-round-clause-still g c =
    same_run_more c.args.world.now c.loop.world c.round.new.world c.args.tasks.now.items
    c.loop.tasks.items c.round.new.tasks.items c.loop.invariant.still c.round.ensures.still

pub returns-in_err-round-clause-err : goal.returns-in_err-round-clause-err
returns-in_err-round-clause-err g c =
    let end = moment_in c.round.new.world c.round.new.tasks.items in
    on_err c.from_residual.result
    (StopsInRounds (scene_in c.args.world.now c.args.tasks.now.items)
    (moment_in c.args.world.now c.args.tasks.now.items) end)
    (stops_in_next c.args.world.now c.loop.world c.args.tasks.now.items c.loop.tasks.items
    c.loop.counter end c.loop.invariant c.in_err-round.ensures.err)

pub returns-then-not-branch-clause-run : goal.returns-then-not-branch-clause-run
returns-then-not-branch-clause-run g c =
    let quiet : c.in_ok-round.field-0 ≡ false = search rules in
    rounds_are_over c.args.world.now c.loop.world c.round.new.world c.args.tasks.now.items
    c.loop.tasks.items c.round.new.tasks.items c.loop.counter c.loop.invariant
    c.round.ensures.still
    (subst (λ (b : Bool). IsRound c.loop.world c.round.new.world c.loop.tasks.items
    c.round.new.tasks.items b) quiet c.in_ok-round.ensures.round)

pub returns-then-not-branch-clause-stops : goal.returns-then-not-branch-clause-stops
returns-then-not-branch-clause-stops g c =
    none_moves c.args.world.now c.args.tasks.now.items
    (moment_in c.args.world.now c.args.tasks.now.items)
    (moment_in c.round.new.world c.round.new.tasks.items)
    (returns-then-not-branch-clause-run g c)

pub returns-then-not-branch-clause-still : goal.returns-then-not-branch-clause-still
returns-then-not-branch-clause-still g c =
    same_run_more c.args.world.now c.loop.world c.round.new.world c.args.tasks.now.items
    c.loop.tasks.items c.round.new.tasks.items c.loop.invariant.still c.round.ensures.still

pub loop-preserved : goal.loop-preserved
loop-preserved g c =
    let moved : c.in_ok-round.field-0 ≡ true = search rules in
    round_is_more c.args.world.now c.loop.world c.round.new.world c.args.tasks.now.items
    c.loop.tasks.items c.round.new.tasks.items c.loop.counter c.loop.invariant
    c.round.ensures.still
    (subst (λ (b : Bool). IsRound c.loop.world c.round.new.world c.loop.tasks.items
    c.round.new.tasks.items b) moved c.in_ok-round.ensures.round)

pub returns-clause-err : goal.returns-clause-err
returns-clause-err g c =
    stops_after c.args.world.now c.loop.world c.args.tasks.now.items c.loop.tasks.items
    c.loop.counter (omega arith) c.loop.invariant

pub returns-clause-still : goal.returns-clause-still
returns-clause-still g c = c.loop.invariant.still
