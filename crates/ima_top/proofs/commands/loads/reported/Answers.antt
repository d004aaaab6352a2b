use Rattle.ima_top.specs.commands.Loads.{table_of}
use Rattle.ima_top.proofs.Ran.{joined}
use Rattle.ima_top.proofs.Tabled.{soundly_tabled}
use Rattle.ima_top.proofs.commands.loads.reported.Goals as goal

pub returns : goal.returns
returns c =
    soundly_tabled c.args.script c.args.ended c.in_ok-answer.answer.stuck
    c.in_ok-answer.answer.output c.requires
    (joined table_of c.args.script c.args.ended c.in_ok-table.table.items
    c.in_ok-answer.answer.stuck c.in_ok-answer.answer.output c.requires.has_run
    (λ for_files. c.in_ok-table.ensures) c.in_ok-answer.ensures.stuck
    c.in_ok-answer.ensures.output)
