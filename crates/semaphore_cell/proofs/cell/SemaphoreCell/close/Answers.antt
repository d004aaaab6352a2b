-- The journal is closed with the cell's own pass and the others.
use Rattle.std.proofs.Common.{◌<◌, length, All, sym, ap, subst}
use mathlib.Core.List.{IsPrefix}
use Rattle.std.proofs.lemmas.List.Elements.{All-tail}
use Rattle.grow_list.specs.Shown.{Grown, HasItsOwn}
use Rattle.grow_list.proofs.Others.{HasEach-others, places-idle}
use Rattle.inode_events.specs.declared.told.Event.{Event}
use Rattle.semaphore_cell.proofs.cell.SemaphoreCell.close.Goals as goal

pub close_with-requires : goal.close_with-requires
close_with-requires c =
    HasEach-others c.self.inside.journal c.args.self c.self.inside.own c.args.passes.items
    (ap (λ (g : Grown Event). g.name) (sym c.self.view_is))
    (ap (λ (g : Grown Event). g.callers) (sym c.self.view_is))
    c.self.invariant.own.name c.self.invariant.own.number c.requires

pub returns-clause-seen : goal.returns-clause-seen
returns-clause-seen c =
    subst (λ (g : Grown Event). All (λ p. IsPrefix p.seen g.list) c.args.passes.items)
    c.self.view_is
    (All-tail (λ p. IsPrefix p.seen c.self.inside.journal.list) c.self.inside.own
    c.args.passes.items c.close_with.ensures.seen)

pub returns-clause-own : goal.returns-clause-own
returns-clause-own c =
    subst (λ (g : Grown Event). All (λ p. HasItsOwn g p) c.args.passes.items) c.self.view_is
    (All-tail (λ p. HasItsOwn c.self.inside.journal p) c.self.inside.own c.args.passes.items
    c.close_with.ensures.own)

pub returns-clause-places : goal.returns-clause-places
returns-clause-places c k below =
    places-idle c.self.inside.own c.args.passes.items k c.self.invariant.own.mine
    (c.close_with.ensures.places k
    (subst (λ (g : Grown Event). k < length g.list) (sym c.self.view_is) below))
