-- The call at the task's place moves on from its progress.
use Rattle.std.proofs.Common.{◌≡◌, List, Some, length, refl, sym, ap, ◌∙◌}
use Rattle.std.specs.Prelude.{slice_get}
use Rattle.std.proofs.lemmas.Bool.{ltb-true}
use Rattle.std.proofs.lemmas.Option.{slice_get_read}
use Rattle.std.specs.Option.{option_copied}
use Rattle.run_model.specs.History.{call_at, position_with, resume_in}
use Rattle.run_model.specs.steps.CallState.{moved, progress_of}
use Rattle.run_model.specs.steps.Steps.{given, next}
use Rattle.run_model.specs.steps.declared.call.Call.{Call}
use Rattle.task_state.specs.Value.{TaskValue, progress_in}
use Rattle.task_state.proofs.state.TaskState.advance.Goals as goal

pub returns-in-Some-clause-position : goal.returns-in-Some-clause-position
returns-in-Some-clause-position c = λ rules.
    let p = c.args.self.now.program in
    let t = c.args.self.now.position in
    let m = t.call_state in
    let call : Call = c.in-Some.call.now in
    let action = given (option_copied c.args.action) in
    let calls : List Call = c.deref.result.now in
    let lookup = c.in-Some.ensures.lookup in
    let at : Some call ≡ call_at p m =
    sym (slice_get_read calls (length calls) c.self.inside.at call refl
    (ltb-true c.self.inside.at (length calls) (sym lookup.0)) lookup.1)
    ∙ ap (λ (l : List Call). slice_get l c.self.inside.at) c.deref.ensures.value
    ∙ ap (λ (v : TaskValue). call_at v.program v.position.call_state) c.self.view_is in
    let progress : progress_in c.progress_of.result ≡ progress_of p.cred.admin call m =
    c.progress_of.ensures.progress in
    ap (position_with t) (c.advance_by.ensures m
    ∙ (λ j. moved call m (progress j) c.args.place
    (next c.args.mode call (progress j).due c.args.told.now action)))
    ∙ (λ j. resume_in c.args.mode p (at j) t (record {
      place = c.args.place;
      told = c.args.told.now;
      action = action;
      rules = rules;
    }))
