-- the text of the groups that are left is still to come
use Rattle.std.proofs.Common.{◌≡◌, ◌-◌, ◌++◌}
use Rattle.load_gen.specs.Script.{groups}
use Rattle.load_gen.proofs.text.push_groups.Given as goal

abbrev pub invariant-loop-k : goal.invariant-loop-k
invariant-loop-k l = record {
  text : l.out.items ++ (groups (64 - l._k) l.task l.draws.state).text
      ≡ l.fn.out.items ++ (groups 64 l.task l.fn.draws.state).text;
  state : (groups (64 - l._k) l.task l.draws.state).state
      ≡ (groups 64 l.task l.fn.draws.state).state;
}
