use Rattle.script_print.proofs.ScriptAgain.{script_again}
use Rattle.script_print.proofs.law.text_is_read.Goals as goal

pub returns : goal.returns
returns c = script_again
