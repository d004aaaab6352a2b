-- The entry is added, or is the same as an earlier one.
use Rattle.std.proofs.Common.{ℕ, Option, ap}
use Rattle.std.specs.Prelude.{is_none}
use Rattle.carry_form.specs.Reading.{if_new}
use Rattle.carry_form.proofs.BookLemmas.{added_entry, known_entry}
use Rattle.carry_form.proofs.carried.add_new.Goals as goal

pub returns-in-Added-clause-new : goal.returns-in-Added-clause-new
returns-in-Added-clause-new c =
    let added = added_entry c.args.book.now c.reserve.new.self c.add.new.self c.args.pass.now.number
    c.in-Added.field-0 c.args.e c.in_ok-reserve.ensures.list c.requires.number
    c.in-Added.ensures.placed c.in-Added.ensures.list c.in-Added.ensures.numbers
    c.in-Added.ensures.kept in
    ap (λ (o : Option ℕ). if_new (is_none o)) added.none

pub returns-in-Added-clause-book : goal.returns-in-Added-clause-book
returns-in-Added-clause-book c =
    let added = added_entry c.args.book.now c.reserve.new.self c.add.new.self c.args.pass.now.number
    c.in-Added.field-0 c.args.e c.in_ok-reserve.ensures.list c.requires.number
    c.in-Added.ensures.placed c.in-Added.ensures.list c.in-Added.ensures.numbers
    c.in-Added.ensures.kept in
    added.book

pub returns-in-Already-clause-new : goal.returns-in-Already-clause-new
returns-in-Already-clause-new c =
    ap if_new
    (known_entry c.args.book.now c.reserve.new.self c.in-Already.field-0 c.args.e
    c.in_ok-reserve.ensures.list c.in-Already.ensures.placed)
