use Rattle.std.proofs.Common.{◌∙◌, ◌<◌, List, ℕ, length, ap, sym, subst}
use Rattle.std.specs.Prelude.{All}
use Rattle.order_outcomes.specs.reports.model.Turns.{turns_of}
use Rattle.task_core.specs.worlds.WorldRuns.{moment_in, scene_in}
use Rattle.order_runs.proofs.Playing.{run_to, turns_within}
use Rattle.order_runs.proofs.play.Play.run.Goals as goal

pub run_schedule-requires-clause-turns : goal.run_schedule-requires-clause-turns
run_schedule-requires-clause-turns c =
    subst (λ (ts : List ℕ). All (λ k. k < length c.in_ok-world.tasks.items) ts)
    (sym c.as_slice.ensures)
    (turns_within c.args.self.now c.args.turns.now c.in_ok-script.script
    c.in_ok-script.ensures.scene c.in_ok-script.ensures.kept c.in_ok-world.world
    c.in_ok-world.tasks.items c.in_ok-world._ending c.in_ok-world.ensures c.requires)

pub returns : goal.returns
returns c =
    run_to c.args.self.now c.args.turns.now c.in_ok-script.script c.in_ok-script.ensures.scene
    c.in_ok-script.ensures.kept c.in_ok-world.world c.in_ok-world.tasks.items
    c.in_ok-world._ending c.in_ok-world.ensures c.run_schedule.new.world
    c.run_schedule.new.tasks.items c.in_ok-run_schedule.ensures.still
    (c.in_ok-run_schedule.ensures.run
    ∙ ap (λ (ts : List ℕ). turns_of (scene_in c.in_ok-world.world c.in_ok-world.tasks.items)
    (moment_in c.in_ok-world.world c.in_ok-world.tasks.items) ts) c.as_slice.ensures)
