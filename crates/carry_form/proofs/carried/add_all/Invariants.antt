-- The entries passed so far were added, and whether the others are new decides.
use Rattle.std.proofs.Common.{◌≡◌, ◌++◌}
use Rattle.carry_form.specs.Books.{Extends}
use Rattle.carry_form.specs.Reading.{all_new}
use Rattle.carry_form.proofs.carried.add_all.Given as goal

abbrev pub invariant-loop-e : goal.invariant-loop-e
invariant-loop-e l = record {
  split : l.fn.entries.items ≡ l.yielded ++ l.e-iterator.rest.items;
  book : Extends l.initial.book l.book l.yielded;
  new : all_new l.book.list l.e-iterator.rest.items
      ≡ all_new l.initial.book.list l.fn.entries.items;
  name : l.pass.name ≡ l.book.name;
  number : l.pass.number ≡ 1;
}
