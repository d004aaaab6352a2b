-- One more turn.
use Rattle.std.proofs.Common.{◌≡◌, ◌<◌, ◌≤◌, ℕ, List, take, length, sym, ◌∙◌, ap, subst, arith, slice_index_or}
use Rattle.std.proofs.lemmas.List.{take_all, take_more}
use Rattle.run_model.specs.Turns.{turns_of}
use Rattle.task_core.specs.worlds.WorldRuns.{HasTurned, moment_in, scene_in}
use Rattle.task_core.proofs.about_worlds.Turning.{same_run_more, turn_is_more}
use Rattle.task_core.proofs.SharedSteps.{on_err}
use Rattle.task_runner.specs.Stops.{StopsIn}
use Rattle.task_runner.proofs.Running.{no_turns, same_run_even}
use Rattle.task_runner.proofs.turns.run_schedule.Goals as goal

pub loop-k-init : goal.loop-k-init
loop-k-init g c = no_turns c.args.world.now c.args.tasks.now.items c.requires.tasks

pub turn_at-requires : goal.turn_at-requires
turn_at-requires g c =
    let even : length c.loop-k.tasks.items ≡ length c.args.tasks.now.items =
    same_run_even c.args.world.now c.loop-k.world c.args.tasks.now.items c.loop-k.tasks.items
    c.loop-k.invariant.still in
    let small : slice_index_or c.args.turns.now c.loop-k.k-index 0
    < length c.args.tasks.now.items =
    c.requires.turns c.loop-k.k-index 0 (omega arith) in
    record { tasks = c.loop-k.invariant.still.each; within = omega arith }

pub returns-in_err-turn_at-clause-still : goal.returns-in_err-turn_at-clause-still
returns-in_err-turn_at-clause-still g c =
    same_run_more c.args.world.now c.loop-k.world c.turn_at.new.world c.args.tasks.now.items
    c.loop-k.tasks.items c.turn_at.new.tasks.items c.loop-k.invariant.still c.turn_at.ensures.still

pub returns-in_err-turn_at-clause-err : goal.returns-in_err-turn_at-clause-err
returns-in_err-turn_at-clause-err g c =
    on_err c.from_residual.result
    (StopsIn (scene_in c.args.world.now c.args.tasks.now.items)
    (moment_in c.args.world.now c.args.tasks.now.items) c.args.turns.now
    (moment_in c.turn_at.new.world c.turn_at.new.tasks.items)) (record {
      count = c.loop-k.k-index;
      left = omega arith;
      run = c.in_err-turn_at.ensures.err ∙ c.loop-k.invariant.run;
    })

pub loop-k-preserved : goal.loop-k-preserved
loop-k-preserved g c =
    let within : c.loop-k.k-index < length c.args.turns.now = omega arith in
    subst (λ (ns : List ℕ). HasTurned c.args.world.now c.turn_at.new.world c.args.tasks.now.items
    c.turn_at.new.tasks.items ns)
    (sym (take_more c.args.turns.now c.loop-k.k-index 0 within))
    (turn_is_more c.args.world.now c.loop-k.world c.turn_at.new.world c.args.tasks.now.items
    c.loop-k.tasks.items c.turn_at.new.tasks.items (take c.loop-k.k-index c.args.turns.now)
    (slice_index_or c.args.turns.now c.loop-k.k-index 0) c.in_ok-turn_at.field-0
    c.loop-k.invariant c.turn_at.ensures.still c.in_ok-turn_at.ensures.turned)

pub returns-clause-run : goal.returns-clause-run
returns-clause-run g c =
    let scene = scene_in c.args.world.now c.args.tasks.now.items in
    let start = moment_in c.args.world.now c.args.tasks.now.items in
    let past : length c.args.turns.now ≤ c.loop-k.k-index = omega arith in
    c.loop-k.invariant.run
    ∙ ap (λ (ns : List ℕ). turns_of scene start ns)
    (take_all c.loop-k.k-index c.args.turns.now past)

pub returns-clause-still : goal.returns-clause-still
returns-clause-still g c = c.loop-k.invariant.still
