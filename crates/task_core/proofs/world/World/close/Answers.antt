-- The tasks have looked, and the lists are closed.
use Rattle.std.proofs.Common.{◌<◌, ◌∙◌, ℕ, length, refl, subst, sym, ap}
use Rattle.std.specs.Prelude.{List}
use Rattle.std.proofs.lemmas.List.{length-map}
use Rattle.run_model.specs.Turns.{State}
use Rattle.world_model.specs.WorldConsts.{WorldConsts}
use Rattle.world_model.specs.Runs.{AreTasks, program_of}
use Rattle.task_state.specs.Value.{TaskValue}
use Rattle.world_model.specs.WorldRuns.{moment_in, scene_in}
use Rattle.world_close.proofs.Finishing.{finished_ends, finished_shown}
use Rattle.world_close.specs.Finished.{HaveMade}
use Rattle.world_close.proofs.Ending.{ended_same}
use Rattle.world_close.specs.Settled.{task_state_of}
use Rattle.task_core.proofs.world.World.close.Goals as goal

-- the requires, in order: consts, count, tasks, made
pub end-requires : goal.end-requires
end-requires c =
    let e = c.look_all.ensures in (
      refl,
      (
        sym (length-map c.look_all.new.tasks.items task_state_of)
            ∙ ap (λ (l : List TaskValue). length l) e.same
            ∙ length-map c.args.tasks.items task_state_of
            ∙ c.requires.count
            ∙ ap (λ (f : WorldConsts). f.tasks) (sym e.consts),
        (
          subst (λ (f : WorldConsts). AreTasks f c.look_all.new.tasks.items) (sym e.consts) e.tasks,
          subst (λ (x : WorldConsts × State). HaveMade x.0 x.1 c.look_all.new.tasks.items)
              (λ i. (sym e.consts i, sym e.state i)) e.made,
        ),
      ),
    )

pub returns-clause-ended : goal.returns-clause-ended
returns-clause-ended c =
    let e = c.look_all.ensures in
    (ended_same c.args.self.consts c.look_all.new.world.consts c.args.self.state
    c.look_all.new.world.state c.args.tasks.items c.look_all.new.tasks.items c.in_ok-ended.ended
    e.consts e.state e.same c.in_ok-ended.ensures).ended

pub returns-clause-finished : goal.returns-clause-finished
returns-clause-finished c =
    let e = c.look_all.ensures in
    (ended_same c.args.self.consts c.look_all.new.world.consts c.args.self.state
    c.look_all.new.world.state c.args.tasks.items c.look_all.new.tasks.items c.in_ok-ended.ended
    e.consts e.state e.same c.in_ok-ended.ensures).finished

pub returns-clause-ends : goal.returns-clause-ends
returns-clause-ends c =
    let e = c.look_all.ensures in
    let f = (ended_same c.args.self.consts c.look_all.new.world.consts c.args.self.state
    c.look_all.new.world.state c.args.tasks.items c.look_all.new.tasks.items c.in_ok-ended.ended
    e.consts e.state e.same c.in_ok-ended.ensures).finished in
    λ still. finished_ends (scene_in c.args.self c.args.tasks.items)
    (moment_in c.args.self c.args.tasks.items) f
    (λ n below. still n
    (subst (λ (k : ℕ). n < k) (length-map c.args.tasks.items program_of) below))

pub returns-clause-shown : goal.returns-clause-shown
returns-clause-shown c =
    let e = c.look_all.ensures in
    let f = (ended_same c.args.self.consts c.look_all.new.world.consts c.args.self.state
    c.look_all.new.world.state c.args.tasks.items c.look_all.new.tasks.items c.in_ok-ended.ended
    e.consts e.state e.same c.in_ok-ended.ensures).finished in
    λ ending through. finished_shown (scene_in c.args.self c.args.tasks.items)
    (moment_in c.args.self c.args.tasks.items) ending f through
