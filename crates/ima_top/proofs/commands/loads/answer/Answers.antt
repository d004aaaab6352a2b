use Rattle.script_text.specs.Grammar.{script_of}
use Rattle.ima_top.specs.commands.Loads.{IsLoadsOutput, IsReportAndTable}
use Rattle.ima_top.proofs.Ran.{of_read}
use Rattle.ima_top.proofs.commands.loads.answer.Goals as goal

pub returns : goal.returns
unfolding IsLoadsOutput
returns g c = (
  c.in_ok-script.ensures.0,
  of_read (λ s. IsReportAndTable s c.in_ok-answer.answer.stuck c.in_ok-answer.answer.output)
      (script_of c.args.input.now) c.in_ok-script.script c.in_ok-script.ensures.1.0
      c.in_ok-answer.ensures,
)
