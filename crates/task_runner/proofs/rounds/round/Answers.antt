-- The turn of the next task.
use Rattle.std.proofs.Common.{◌≡◌, ◌+◌, ℕ, Bool, length, refl, sym, ◌∙◌, subst, arith}
use Rattle.std.proofs.Math.Bool.{or_comm}
use Rattle.run_model.specs.Rounds.{all_tasks, is_moved}
use Rattle.task_core.specs.worlds.WorldRuns.{IsInRound, moment_in, scene_in}
use Rattle.task_core.proofs.about_worlds.Rounding.{round_is_whole, turn_in_round}
use Rattle.task_core.proofs.about_worlds.Turning.{same_run_more}
use Rattle.task_core.proofs.SharedSteps.{on_err}
use Rattle.task_runner.specs.Stops.{StopsIn}
use Rattle.task_runner.proofs.Running.{no_turns, same_run_even}
use Rattle.task_runner.proofs.Stopped.{stops_in_round}
use Rattle.task_runner.proofs.rounds.round.Goals as goal

pub loop-k-init : goal.loop-k-init
loop-k-init g c = record {
  turned = no_turns c.args.world.now c.args.tasks.now.items c.requires;
  moves = refl;
}

pub turn_at-requires : goal.turn_at-requires
turn_at-requires g c =
    let even : length c.loop-k.tasks.items ≡ length c.args.tasks.now.items =
    same_run_even c.args.world.now c.loop-k.world c.args.tasks.now.items c.loop-k.tasks.items
    c.loop-k.invariant.turned.still in
    record { tasks = c.loop-k.invariant.turned.still.each; within = omega arith }

pub returns-in_err-turn_at-clause-still : goal.returns-in_err-turn_at-clause-still
returns-in_err-turn_at-clause-still g c =
    same_run_more c.args.world.now c.loop-k.world c.turn_at.new.world c.args.tasks.now.items
    c.loop-k.tasks.items c.turn_at.new.tasks.items c.loop-k.invariant.turned.still
    c.turn_at.ensures.still

pub returns-in_err-turn_at-clause-err : goal.returns-in_err-turn_at-clause-err
returns-in_err-turn_at-clause-err g c =
    let scene = scene_in c.args.world.now c.args.tasks.now.items in
    let end = moment_in c.turn_at.new.world c.turn_at.new.tasks.items in
    on_err c.from_residual.result
    (StopsIn scene (moment_in c.args.world.now c.args.tasks.now.items) (all_tasks scene) end)
    (stops_in_round c.args.world.now c.loop-k.world c.args.tasks.now.items c.loop-k.tasks.items
    c.loop-k.k c.loop-k.moved end (omega arith) c.loop-k.invariant c.in_err-turn_at.ensures.err)

pub loop-k-preserved : goal.loop-k-preserved
loop-k-preserved g c =
    subst (λ (b : Bool). IsInRound c.args.world.now c.turn_at.new.world c.args.tasks.now.items
    c.turn_at.new.tasks.items (c.loop-k.k + 1) b)
    (or_comm c.loop-k.moved (is_moved c.in_ok-turn_at.field-0) ∙ sym c.has_moved-moved.ensures)
    (turn_in_round c.args.world.now c.loop-k.world c.turn_at.new.world c.args.tasks.now.items
    c.loop-k.tasks.items c.turn_at.new.tasks.items c.loop-k.k c.loop-k.moved
    c.in_ok-turn_at.field-0 c.loop-k.invariant c.turn_at.ensures.still
    c.in_ok-turn_at.ensures.turned)

pub returns-clause-round : goal.returns-clause-round
returns-clause-round g c =
    let all : c.loop-k.k ≡ length c.args.tasks.now.items = omega arith in
    round_is_whole c.args.world.now c.loop-k.world c.args.tasks.now.items c.loop-k.tasks.items
    c.loop-k.moved
    (subst (λ (n : ℕ). IsInRound c.args.world.now c.loop-k.world c.args.tasks.now.items
    c.loop-k.tasks.items n c.loop-k.moved) all c.loop-k.invariant)

pub returns-clause-still : goal.returns-clause-still
returns-clause-still g c = c.loop-k.invariant.turned.still
