-- The list under its lock still belongs to the constants, and the pass has met it.
use Rattle.buffer_measure.proofs.Starting.{added_is, book_added, book_same}
use Rattle.buffer_measure.proofs.book.TaggedBook.add.Goals as goal

pub invariant_of-self : goal.invariant_of-self
invariant_of-self g c =
    book_same g.N.Name.constants c.self.inside.book c.reserve.new.self c.reserve.ensures.list
    c.self.invariant

pub invariant_of-self-2 : goal.invariant_of-self-2
invariant_of-self-2 g c =
    book_added g.N.Name.constants c.reserve.new.self c.add.new.self c.args.entry
    c.add.ensures.kept.0 c.add.ensures.kept.1 c.add.ensures.list
    (book_same g.N.Name.constants c.self.inside.book c.reserve.new.self c.reserve.ensures.list
    c.self.invariant)

pub returns-clause-added : goal.returns-clause-added
returns-clause-added g c =
    added_is c.reserve.new.self c.add.new.self c.args.pass.now c.add.new.pass c.args.entry
    c.add.result c.answer_of.result c.answer_of.ensures c.add.ensures.placed c.add.ensures.before
    c.add.ensures.list c.add.ensures.seen c.add.ensures.mine
