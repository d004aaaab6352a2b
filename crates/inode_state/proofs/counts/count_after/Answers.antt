use Rattle.inode_state.specs.Counts.{test_of}
use Rattle.inode_state.proofs.CountsLemmas.{count_on}
use Rattle.inode_state.proofs.counts.count_after.Goals as goal

pub returns : goal.returns
returns c = λ p is was. rw (
  c.up.ensures,
  c.down.ensures,
  c.counts_as.ensures,
  c.counts_as-2.ensures,
  c.counted.ensures,
) (count_on (test_of c.args.kind) c.args.n c.args.e.now
    c.args.gone p is was)
