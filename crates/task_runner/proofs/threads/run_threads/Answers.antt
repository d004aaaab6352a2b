-- The tasks look at all lists, and rounds of them end the run.
use Rattle.std.proofs.Common.{sym, subst}
use Rattle.task_core.specs.worlds.WorldConsts.{WorldConsts}
use Rattle.task_core.specs.worlds.Runs.{AreTasks}
use Rattle.run_model.specs.Rounds.{RoundsTo}
use Rattle.run_model.specs.Scene.{Scene}
use Rattle.task_core.proofs.about_worlds.Turning.{same_run_more, scene_same}
use Rattle.task_core.specs.worlds.WorldRuns.{moment_in}
use Rattle.task_runner.proofs.Going.{runs_still}
use Rattle.task_runner.proofs.Stopping.{none_stirs, settled_runs}
use Rattle.task_runner.proofs.threads.run_threads.Goals as goal

pub look_all-requires : goal.look_all-requires
look_all-requires g c = c.in_ok-after.ensures.still.each

pub run_rounds-requires : goal.run_rounds-requires
run_rounds-requires g c =
    subst (λ (f : WorldConsts). AreTasks f c.look_all.new.tasks.items)
    (sym c.look_all.ensures.consts) c.look_all.ensures.tasks

pub returns-in_err-run_rounds-clause-tasks : goal.returns-in_err-run_rounds-clause-tasks
returns-in_err-run_rounds-clause-tasks g c =
    let old = c.args.tasks.now.items in
    let looked = same_run_more c.args.world c.in_ok-after.after c.look_all.new.world old
    c.run_shared.new.tasks.items c.look_all.new.tasks.items c.in_ok-after.ensures.still
    (settled_runs c.in_ok-after.after c.look_all.new.world c.run_shared.new.tasks.items
    c.look_all.new.tasks.items c.look_all.ensures.consts c.look_all.ensures.tasks
    c.look_all.ensures.same) in
    runs_still c.args.world c.run_rounds.new.world old c.run_rounds.new.tasks.items
    (same_run_more c.args.world c.look_all.new.world c.run_rounds.new.world old
    c.look_all.new.tasks.items c.run_rounds.new.tasks.items looked c.run_rounds.ensures.still)

pub returns-clause-still : goal.returns-clause-still
returns-clause-still g c =
    let old = c.args.tasks.now.items in
    let looked = same_run_more c.args.world c.in_ok-after.after c.look_all.new.world old
    c.run_shared.new.tasks.items c.look_all.new.tasks.items c.in_ok-after.ensures.still
    (settled_runs c.in_ok-after.after c.look_all.new.world c.run_shared.new.tasks.items
    c.look_all.new.tasks.items c.look_all.ensures.consts c.look_all.ensures.tasks
    c.look_all.ensures.same) in
    same_run_more c.args.world c.look_all.new.world c.run_rounds.new.world old
    c.look_all.new.tasks.items c.run_rounds.new.tasks.items looked c.run_rounds.ensures.still

pub returns-clause-stops : goal.returns-clause-stops
returns-clause-stops g c =
    let old = c.args.tasks.now.items in
    let looked = same_run_more c.args.world c.in_ok-after.after c.look_all.new.world old
    c.run_shared.new.tasks.items c.look_all.new.tasks.items c.in_ok-after.ensures.still
    (settled_runs c.in_ok-after.after c.look_all.new.world c.run_shared.new.tasks.items
    c.look_all.new.tasks.items c.look_all.ensures.consts c.look_all.ensures.tasks
    c.look_all.ensures.same) in
    none_stirs c.args.world c.look_all.new.world old c.look_all.new.tasks.items
    (moment_in c.run_rounds.new.world c.run_rounds.new.tasks.items) looked
    c.in_ok-run_rounds.ensures.stops

pub returns-clause-parts : goal.returns-clause-parts
returns-clause-parts g c =
    let old = c.args.tasks.now.items in
    let looked = same_run_more c.args.world c.in_ok-after.after c.look_all.new.world old
    c.run_shared.new.tasks.items c.look_all.new.tasks.items c.in_ok-after.ensures.still
    (settled_runs c.in_ok-after.after c.look_all.new.world c.run_shared.new.tasks.items
    c.look_all.new.tasks.items c.look_all.ensures.consts c.look_all.ensures.tasks
    c.look_all.ensures.same) in
    record {
      mid = c.run_shared.new.tasks.items;
      parts = c.in_ok-after.ensures.parts;
      back = c.look_all.new.world;
      looked = c.look_all.new.tasks.items;
      task_states = c.look_all.ensures.same;
      rounds = subst (λ (x : Scene). RoundsTo x
          (moment_in c.look_all.new.world c.look_all.new.tasks.items)
          (moment_in c.run_rounds.new.world c.run_rounds.new.tasks.items))
          (scene_same c.args.world c.look_all.new.world old c.look_all.new.tasks.items looked)
          c.in_ok-run_rounds.ensures.run;
    }

pub returns-clause-tasks : goal.returns-clause-tasks
returns-clause-tasks g c =
    runs_still c.args.world c.run_rounds.new.world c.args.tasks.now.items
    c.run_rounds.new.tasks.items (returns-clause-still g c)
