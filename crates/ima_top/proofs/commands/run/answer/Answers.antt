use Rattle.std.proofs.Common.{◌≡◌, Ok, sym, ap, ◌∙◌}
use Rattle.std.proofs.lemmas.Result.{err_from_is_err_and}
use Rattle.script_text.specs.Grammar.{script_of}
use Rattle.ima_top.specs.commands.Ran.{script_refusal}
use Rattle.ima_top.specs.commands.Run.{IsReport, IsRunOutput}
use Rattle.ima_top.proofs.Ran.{of_read, run_refuses, same_reason}
use Rattle.ima_top.proofs.commands.run.answer.Goals as goal

pub returns-in_err-script : goal.returns-in_err-script
returns-in_err-script g c =
    let p = err_from_is_err_and c.from_residual.result c.from_residual.ensures.1 in
    let same = run_refuses c.args.input.items ∙ ap script_refusal (sym c.deref.ensures.value) in
    rw (p.1, p.2) (same_reason c.in_err-script.field-0.0 _ _ _ _ same c.in_err-script.ensures)

pub returns : goal.returns
unfolding IsRunOutput
returns g c =
    let input = c.args.input.items in
    let read : script_of input ≡ Ok c.in_ok-script.script =
    ap script_of (sym c.deref.ensures.value) ∙ c.in_ok-script.ensures.1 in
    let fits = run_refuses input ∙ ap script_refusal (sym c.deref.ensures.value)
    ∙ c.in_ok-script.ensures.0 in (
      fits,
      of_read (λ s. IsReport s c.in_ok-answer.answer.stuck c.in_ok-answer.answer.output)
          (script_of input) c.in_ok-script.script read
          (record {
            ended = c.in_ok-ended.ended;
            has_run = c.in_ok-ended.ensures;
            is_stuck = sym c.in_ok-answer.ensures.stuck;
            report = c.in_ok-answer.ensures.output;
          }),
    )
