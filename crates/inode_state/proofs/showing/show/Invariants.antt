-- The passes so far have seen the list.
use Rattle.std.proofs.Common.{◌≡◌}
use Rattle.grow_list.specs.Shown.{IsSameList}
use Rattle.inode_state.specs.Value.{having_seen}
use Rattle.inode_state.proofs.Passes.{done}
use Rattle.inode_state.proofs.showing.show.Given as goal

abbrev pub invariant-loop-k : goal.invariant-loop-k
invariant-loop-k l = record {
  list : IsSameList l.fn.list l.list;
  passes : l.passes.items ≡ done (having_seen l.fn.list.list) l.k l.initial.passes.items;
}
