-- The parts have run, and the world has been taken back.
use Rattle.std.proofs.Common.{◌≡◌, ◌++◌, drop, length, refl, sym, take, ◌∙◌, subst}
use Rattle.std.specs.Prelude.{All, List}
use Rattle.std.proofs.lemmas.Result.{IfOk-weaker, err_from_is_err_and}
use Rattle.task_core.specs.worlds.Tasks.{IsTask, Tasked}
use Rattle.task_core.specs.worlds.World.{WorldValue}
use Rattle.task_core.specs.worlds.WorldRuns.{SameRun}
use Rattle.task_runner.proofs.Going.{all_tasks, front_is, gone_named, gone_none, same_run}
use Rattle.task_runner.proofs.Passing.{parts_named}
use Rattle.task_runner.specs.Passes.{HaveRunInParts}
use Rattle.task_runner.proofs.threads.run_shared.Goals as goal

pub returns-in_err-live-clause-still : goal.returns-in_err-live-clause-still
returns-in_err-live-clause-still g c =
    let p = err_from_is_err_and c.from_residual.result c.from_residual.ensures.1 in
    rw (p.1) tt

pub returns-in_err-live-clause-parts : goal.returns-in_err-live-clause-parts
returns-in_err-live-clause-parts g c =
    let p = err_from_is_err_and c.from_residual.result c.from_residual.ensures.1 in
    rw (p.1) tt

pub returns-in_err-live-clause-tasks : goal.returns-in_err-live-clause-tasks
returns-in_err-live-clause-tasks g c =
    let old = c.args.tasks.now.items in
    gone_named c.args.world.consts g.N.Name.consts old old old old c.requires.consts refl refl
    c.requires.tasks
    (gone_none g.N.Name.consts old
    (all_tasks c.args.world.consts g.N.Name.consts old c.requires.consts c.requires.tasks))

pub run_parts-requires-clause-tasks : goal.run_parts-requires-clause-tasks
run_parts-requires-clause-tasks g c =
    λ κs out. subst (λ (xs : List Tasked). All (IsTask g.N.Name.consts) xs)
    (sym c.as_mut_slice.ensures.value)
    (all_tasks c.args.world.consts g.N.Name.consts c.args.tasks.now.items c.requires.consts
    c.requires.tasks)

pub returns-in_err-run_parts-clause-still : goal.returns-in_err-run_parts-clause-still
returns-in_err-run_parts-clause-still g c =
    let p = err_from_is_err_and c.from_residual-in_err-run_parts.result c.from_residual-in_err-run_parts.ensures.1 in
    rw (p.1) tt

pub returns-in_err-run_parts-clause-parts : goal.returns-in_err-run_parts-clause-parts
returns-in_err-run_parts-clause-parts g c =
    let p = err_from_is_err_and c.from_residual-in_err-run_parts.result c.from_residual-in_err-run_parts.ensures.1 in
    rw (p.1) tt

pub returns-in_err-run_parts-clause-tasks : goal.returns-in_err-run_parts-clause-tasks
returns-in_err-run_parts-clause-tasks g c =
    let old = c.args.tasks.now.items in
    let new = c.run_parts.new.tasks in
    let back = take c.args.tasks.now.len (new ++ drop (length new) old) in
    let is : back ≡ new =
    front_is new (drop (length new) old) c.args.tasks.now.len
    (c.run_parts.ensures.gone.even ∙ c.as_mut_slice.ensures.len) in
    gone_named c.args.world.consts g.N.Name.consts old c.as_mut_slice.result.now new back
    c.requires.consts c.as_mut_slice.ensures.value is c.requires.tasks c.run_parts.ensures.gone

pub returns-clause-still : goal.returns-clause-still
returns-clause-still g c =
    let old = c.args.tasks.now.items in
    let new = c.run_parts.new.tasks in
    let back = take c.args.tasks.now.len (new ++ drop (length new) old) in
    let is : back ≡ new =
    front_is new (drop (length new) old) c.args.tasks.now.len
    (c.run_parts.ensures.gone.even ∙ c.as_mut_slice.ensures.len) in
    IfOk-weaker c.back.result (λ (w : WorldValue). w.consts ≡ g.N.Name.consts)
    (λ (w : WorldValue). SameRun c.args.world w old back)
    (λ w named. same_run c.args.world w old back (named ∙ sym c.requires.consts)
    (gone_named c.args.world.consts g.N.Name.consts old c.as_mut_slice.result.now new back
    c.requires.consts c.as_mut_slice.ensures.value is c.requires.tasks c.run_parts.ensures.gone))
    c.back.ensures

pub returns-clause-parts : goal.returns-clause-parts
returns-clause-parts g c =
    let old = c.args.tasks.now.items in
    let new = c.run_parts.new.tasks in
    let back = take c.args.tasks.now.len (new ++ drop (length new) old) in
    let is : back ≡ new =
    front_is new (drop (length new) old) c.args.tasks.now.len
    (c.run_parts.ensures.gone.even ∙ c.as_mut_slice.ensures.len) in
    IfOk-weaker c.back.result (λ (w : WorldValue). w.consts ≡ g.N.Name.consts)
    (λ (w : WorldValue). HaveRunInParts c.args.world.consts c.args.n old back)
    (λ w named. parts_named c.args.world.consts g.N.Name.consts c.args.n old
    c.as_mut_slice.result.now new back c.requires.consts c.as_mut_slice.ensures.value is
    c.in_ok-run_parts.ensures.parts)
    c.back.ensures

pub returns-clause-tasks : goal.returns-clause-tasks
returns-clause-tasks g c =
    let old = c.args.tasks.now.items in
    let new = c.run_parts.new.tasks in
    let back = take c.args.tasks.now.len (new ++ drop (length new) old) in
    let is : back ≡ new =
    front_is new (drop (length new) old) c.args.tasks.now.len
    (c.run_parts.ensures.gone.even ∙ c.as_mut_slice.ensures.len) in
    gone_named c.args.world.consts g.N.Name.consts old c.as_mut_slice.result.now new back
    c.requires.consts c.as_mut_slice.ensures.value is c.requires.tasks c.run_parts.ensures.gone
