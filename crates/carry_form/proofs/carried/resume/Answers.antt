-- The book and the pass are those of the list.
use Rattle.std.proofs.Common.{ap, ◌∙◌}
use Rattle.carry_form.specs.Books.{carried_numbers}
use Rattle.carry_form.proofs.BookLemmas.{HasOthers-resumed}
use Rattle.carry_form.proofs.carried.resume.Goals as goal

pub returns-clause-list : goal.returns-clause-list
returns-clause-list c = c.list.view_is

pub returns-clause-callers : goal.returns-clause-callers
returns-clause-callers c = c.list.invariant.callers

pub returns-clause-numbers : goal.returns-clause-numbers
returns-clause-numbers c = c.list.invariant.numbers ∙ ap carried_numbers c.list.view_is

pub returns-clause-name : goal.returns-clause-name
returns-clause-name c = c.list.invariant.name

pub returns-clause-number : goal.returns-clause-number
returns-clause-number c = c.list.invariant.number

pub returns-clause-seen : goal.returns-clause-seen
returns-clause-seen c = c.list.invariant.seen ∙ c.list.view_is

pub returns-clause-own : goal.returns-clause-own
returns-clause-own c = c.list.invariant.own

pub returns-clause-others : goal.returns-clause-others
returns-clause-others c =
    HasOthers-resumed c.list.inside.book c.list.inside.pass c.list.invariant
