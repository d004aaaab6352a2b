-- The pass that is left has the number 1 and hasn't seen or added any entry.
use Rattle.std.proofs.Common.{arith}
use Rattle.grow_list.specs.Shown.{fresh}
use Rattle.carry_form.proofs.BookLemmas.{first_pass}
use Rattle.carry_form.proofs.carried.start.Goals as goal

pub returns-clause-pass : goal.returns-clause-pass
returns-clause-pass c =
    first_pass c.in_ok-book.passes.items c.remove-pass.result (fresh c.in_ok-book.book.name 1)
    (c.in_ok-book.ensures.passes 0 (omega (arith, c.in_ok-book.ensures.count)))
    c.remove-pass.ensures.value
