use Rattle.std.proofs.Common.{refl}
use Rattle.worked_examples.proofs.call_examples.Goals as goal

pub returns : goal.returns
returns c = record {
  run_made = refl;
  run_read = refl;
  run_ended = refl;
  two_held = refl;
  second_read = refl;
  one_inode = refl;
  two_inodes = refl;
}
