use Rattle.std.proofs.Common.{◌≡◌, ◌++◌, All}
use Rattle.grow_list.specs.Meetings.{IsMoved}
use Rattle.grow_list.specs.Shown.{Accounts}
use Rattle.grow_list.specs.Views.{listed}
use Rattle.grow_list.proofs.list.take_back.Given as goal

abbrev pub invariant-loop-pass : goal.invariant-loop-pass
invariant-loop-pass g l = record {
  split : l.fn.passes.items ≡ l.yielded ++ l.pass-iterator.rest.items;
  of_list : All (λ p. p.name ≡ l.initial.list.table_id) l.pass-iterator.rest.items;
  moved : IsMoved l.initial.list l.list l.initial.list.me.0;
  accounts : All (Accounts (listed l.initial.list.me.0)) l.yielded;
}
