use Rattle.buffer_measure.proofs.Determining.{run_determined}
use Rattle.buffer_measure.proofs.laws.print_determines.Goals as goal

pub returns : goal.returns
returns c = λ t a b forms is_a is_b same. run_determined t a b forms is_a is_b same
