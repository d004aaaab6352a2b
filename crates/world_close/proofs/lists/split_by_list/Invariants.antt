use Rattle.std.proofs.Common.{◌≡◌, map}
use Rattle.world_model.specs.Tasks.{PassesValue}
use Rattle.world_close.proofs.lists.split_by_list.Given as goal

abbrev pub invariant-loop-one : goal.invariant-loop-one
invariant-loop-one l = record {
  rows : l.by_list.rows.items ≡ map (λ (q : PassesValue). q.inodes) l.yielded;
  sems : l.by_list.sems.items ≡ map (λ (q : PassesValue). q.sems) l.yielded;
  book : l.by_list.book.items ≡ map (λ (q : PassesValue). q.book) l.yielded;
  rules : l.by_list.rules.items ≡ map (λ (q : PassesValue). q.rules) l.yielded;
}
