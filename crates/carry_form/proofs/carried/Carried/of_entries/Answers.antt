-- The book begins with the first entry, and the others are added to it.
use Rattle.std.proofs.Common.{ap, sym, ◌∙◌}
use Rattle.grow_list.specs.Shown.{Passed}
use Rattle.ima_templates.specs.declared.entry.Entry.{Entry}
use Rattle.carry_form.proofs.BookLemmas.{IsResumed-made, first_then, loaded_list}
use Rattle.carry_form.proofs.carried.Carried.of_entries.Goals as goal

pub add_all-requires-clause-name : goal.add_all-requires-clause-name
add_all-requires-clause-name c = ap (λ (p : Passed Entry). p.name) c.in_ok-book.ensures.pass

pub add_all-requires-clause-number : goal.add_all-requires-clause-number
add_all-requires-clause-number c = ap (λ (p : Passed Entry). p.number) c.in_ok-book.ensures.pass

pub invariant_of-result : goal.invariant_of-result
invariant_of-result c =
    IsResumed-made c.in_ok-book.book c.add_all.new.book c.look.new.self c.look.new.pass
    c.remove-first.result c.remove-first.new.self.items c.in_ok-book.ensures.list
    c.in_ok-book.ensures.numbers c.in_ok-book.ensures.callers c.in_ok-add_all.ensures.book
    c.look.ensures.list
    (c.look.ensures.same_pass.0 ∙ c.in_ok-add_all.ensures.name ∙ sym c.look.ensures.list.name)
    (c.look.ensures.same_pass.1 ∙ c.in_ok-add_all.ensures.number) c.look.ensures.seen
    c.look.ensures.own c.look.ensures.entries c.look.ensures.distinct

pub returns : goal.returns
returns c =
    loaded_list c.args.entries.items c.remove-first.new.self.items c.in_ok-book.book.list
    c.look.new.self.list c.remove-first.result
    (first_then c.args.entries.items c.remove-first.new.self.items c.remove-first.result c.requires
    c.remove-first.ensures.value c.remove-first.ensures.items)
    c.in_ok-book.ensures.list
    (c.look.ensures.list.list ∙ c.in_ok-add_all.ensures.book.list) c.in_ok-add_all.ensures.new
