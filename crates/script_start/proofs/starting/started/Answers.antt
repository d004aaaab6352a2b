use Rattle.std.proofs.Common.{◌≡◌, ℕ, ◌<◌, ◌∙◌, All, List, ap, arith, length, map, sym, subst, rules}
use Rattle.std.proofs.lemmas.List.{length-map}
use Rattle.std.proofs.lemmas.List.Elements.{All-from_recursion}
use Rattle.std.proofs.lemmas.Result.{err_from_is_err_and}
use Rattle.run_model.specs.events.declared.image.Image.{Image}
use Rattle.policy_rules.specs.declared.access.Super.{Super}
use Rattle.task_core.specs.starts.Started.{IsFile}
use Rattle.script_scene.specs.Scene.{file_of, fs_of}
use Rattle.script_start.proofs.Fits.{files_fit, places_fit}
use Rattle.script_start.proofs.Beginning.{started_is}
use Rattle.script_start.proofs.starting.started.Goals as goal

pub start-requires-clause-files : goal.start-requires-clause-files
start-requires-clause-files c =
    let s = c.args.script in
    subst (λ (l : List (List ℕ × Image)). All IsFile l) (sym c.in_ok-settings.ensures.inodes)
    (All-from_recursion IsFile (map file_of s.files)
    (files_fit s.supers s.files c.keeps.ensures.files.each))

pub start-requires-clause-places : goal.start-requires-clause-places
start-requires-clause-places c =
    let s = c.args.script in
    let parts = c.in_ok-settings.ensures in
    subst (λ (x : List ℕ × List Super). All (λ place. place < length x.1) x.0)
    (λ i. (sym parts.places i, sym parts.supers i))
    (All-from_recursion (λ place. place < length s.supers) (map fs_of s.files)
    (places_fit s.supers s.files c.keeps.ensures.files.each))

pub start-requires-clause-even : goal.start-requires-clause-even
start-requires-clause-even c =
    let files = c.args.script.files in
    let parts = c.in_ok-settings.ensures in
    ap length parts.places ∙ length-map files fs_of
    ∙ sym (ap length parts.inodes ∙ length-map files file_of)

pub start-requires-clause-callers : goal.start-requires-clause-callers
start-requires-clause-callers c =
    let parts = c.in_ok-settings.ensures in
    omega (
      arith,
      ap length parts.inodes ∙ length-map c.args.script.files file_of,
      ap length parts.tasks,
      c.keeps.ensures.files.few,
      c.keeps.ensures.tasks.few,
      c.len-count.ensures,
      c.in_ok-settings.field-0.tasks.ok,
    )

pub new_tasks-requires : goal.new_tasks-requires
new_tasks-requires c = record {
  even = omega (
    arith,
    c.in_ok-world.ensures.passes.count ∙ c.in_ok-world.ensures.consts.tasks,
    c.len-count.ensures,
    c.in_ok-settings.field-0.tasks.ok,
    ap length c.in_ok-settings.ensures.tasks,
    c.keeps.ensures.tasks.few,
  );
  few = omega (arith, ap length c.in_ok-settings.ensures.tasks, c.keeps.ensures.tasks.few);
}

pub returns-in_err-settings : goal.returns-in_err-settings
returns-in_err-settings c =
    let p = err_from_is_err_and c.from_residual.result c.from_residual.ensures.1 in rw p.1 tt

pub returns-in_err-world : goal.returns-in_err-world
returns-in_err-world c =
    let p = err_from_is_err_and c.from_residual-in_err-world.result
    c.from_residual-in_err-world.ensures.1 in
    rw p.1 tt

pub returns-in_err-tasks : goal.returns-in_err-tasks
returns-in_err-tasks c =
    let p = err_from_is_err_and c.from_residual-in_err-tasks.result
    c.from_residual-in_err-tasks.ensures.1 in
    rw p.1 tt

pub returns : goal.returns
returns c =
    let count : c.len-count.result ≡ length c.in_ok-settings.field-0.tasks.items =
    search rules in
    started_is c.args.script c.keeps.ensures c.in_ok-settings.field-0 c.in_ok-settings.ensures
    c.in_ok-world.world c.in_ok-world.passes.items c.in_ok-tasks.tasks.items c.len-count.result
    count c.in_ok-world.ensures.consts c.in_ok-world.ensures.begins c.in_ok-world.ensures.passes
    c.in_ok-tasks.ensures
