-- The list is closed with the book's own pass and the others.
use Rattle.std.proofs.Common.{◌<◌, length, All, sym, ap, subst}
use mathlib.Core.List.{IsPrefix}
use Rattle.std.proofs.lemmas.List.Elements.{All-tail}
use Rattle.grow_list.specs.Shown.{Grown, HasItsOwn}
use Rattle.grow_list.proofs.Others.{HasEach-others}
use Rattle.ima_templates.specs.declared.entry.Entry.{Entry}
use Rattle.measure_book.proofs.Own.{places-others}
use Rattle.measure_book.proofs.book.Book.close.Goals as goal

pub close_with-requires : goal.close_with-requires
close_with-requires c =
    HasEach-others c.self.inside.list c.args.self c.self.inside.own c.args.passes.items
    (ap (λ (b : Grown Entry). b.name) (sym c.self.view_is))
    (ap (λ (b : Grown Entry). b.callers) (sym c.self.view_is))
    c.self.invariant.own.name c.self.invariant.own.number c.requires

pub returns-clause-seen : goal.returns-clause-seen
returns-clause-seen c =
    subst (λ (b : Grown Entry). All (λ p. IsPrefix p.seen b.list) c.args.passes.items)
    c.self.view_is
    (All-tail (λ p. IsPrefix p.seen c.self.inside.list.list) c.self.inside.own c.args.passes.items
    c.close_with.ensures.seen)

pub returns-clause-own : goal.returns-clause-own
returns-clause-own c =
    subst (λ (b : Grown Entry). All (λ p. HasItsOwn b p) c.args.passes.items) c.self.view_is
    (All-tail (λ p. HasItsOwn c.self.inside.list p) c.self.inside.own c.args.passes.items
    c.close_with.ensures.own)

pub returns-clause-places : goal.returns-clause-places
returns-clause-places c k below =
    places-others c.self.inside.list c.self.inside.own c.args.passes.items k c.self.invariant.own
    (c.close_with.ensures.places k (subst (λ (b : Grown Entry). k < length b.list)
    (sym c.self.view_is) below))
