use Rattle.std.proofs.Common.{refl}
use Rattle.worked_examples.proofs.access_examples.Goals as goal

pub returns : goal.returns
returns c = record {
  owner = refl;
  group = refl;
  mask = refl;
  task = refl;
  owner_matches = refl;
  group_matches = refl;
  not_the_group = refl;
  not_the_owner = refl;
}
