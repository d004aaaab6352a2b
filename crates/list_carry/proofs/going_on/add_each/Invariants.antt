-- the entries that are left make of the book what all of them make of it at the start
use Rattle.std.proofs.Common.{◌≡◌}
use Rattle.std.specs.List.{fold}
use Rattle.ima_templates.specs.Same.{add}
use Rattle.carry_form.specs.Books.{GoesOn}
use Rattle.list_carry.proofs.going_on.add_each.Given as goal

abbrev pub invariant-loop-e : goal.invariant-loop-e
invariant-loop-e l = record {
  going : GoesOn l.book l.pass;
  rest : fold add l.book.list l.e-iterator.rest.items
      ≡ fold add l.initial.book.list l.fn.entries.items;
}
