-- The task takes the answer.
use Rattle.std.proofs.Common.{Option, ◌∙◌, ap, subst, sym}
use Rattle.std.specs.Prelude.{unwrap_or}
use Rattle.call_steps.specs.Steps.{given}
use Rattle.policy_rules.specs.ActionValue.{ActionValue}
use Rattle.run_model.specs.History.{resume}
use Rattle.task_core.specs.GoesOn.{GoesOn}
use Rattle.world_locks.specs.acts.declared.answers.TurnResult.{TurnResult}
use Rattle.task_core.proofs.turning.go_on.Goals as goal

pub returns-in-Told-clause-goes : goal.returns-in-Told-clause-goes
returns-in-Told-clause-goes c =
    let t = c.args.task_state.now in
    let a = c.in-Told.answered in
    subst (λ (x : TurnResult). GoesOn c.args.mode t c.resume.new.self x) (sym c.in-Told.is)
    (record {
      program = c.resume.ensures.program;
      position = λ rules. c.resume.ensures.position rules
          ∙ ap (λ (y : Option ActionValue). resume c.args.mode t.program t.position
          (record { place = a.place; told = a.told; action = given y; rules = rules }))
          c.as_ref.ensures.value;
      checked = c.resume.ensures.checked
          ∙ ap (λ (y : Option ActionValue). unwrap_or y t.checked) c.as_ref.ensures.value;
    })
