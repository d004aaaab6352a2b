-- The list is closed with the journal's own pass and the others.
use Rattle.std.proofs.Common.{◌≡◌, ℕ, ◌<◌, List, length, map, All, sym, ap, subst}
use mathlib.Core.List.{IsPrefix}
use Rattle.std.proofs.lemmas.List.Elements.{All-tail}
use Rattle.grow_list.specs.Entries.{entries_of}
use Rattle.grow_list.specs.Shown.{HasItsOwn}
use Rattle.inode_events.specs.Callers.{caller_of}
use Rattle.inode_state.specs.Value.{JournalValue}
use Rattle.inode_state.proofs.Own.{HasEach-others, places-others}
use Rattle.inode_state.proofs.journal.InodeJournal.close.Goals as goal

pub close_with-requires : goal.close_with-requires
close_with-requires c =
    let k = c.self.invariant in
    HasEach-others c.self.inside.journal c.args.self c.self.inside.own c.args.passes.items
    (ap (λ (b : JournalValue). b.name) (sym c.self.view_is))
    (ap (λ (b : JournalValue). b.callers) (sym c.self.view_is))
    (record { name = k.own_name; number = k.own_number; birth = k.birth; mine = k.own_mine })
    c.requires

pub returns-clause-seen : goal.returns-clause-seen
returns-clause-seen c =
    subst (λ (b : JournalValue). All (λ p. IsPrefix p.seen b.list) c.args.passes.items)
    c.self.view_is (All-tail (λ p. IsPrefix p.seen c.self.inside.journal.list) c.self.inside.own
    c.args.passes.items c.close_with.ensures.seen)

pub returns-clause-own : goal.returns-clause-own
returns-clause-own c =
    let g = c.self.inside.journal in
    subst (λ (b : JournalValue). All
    (λ p. entries_of p.number (map caller_of b.list) b.list ≡ p.mine)
    c.args.passes.items) c.self.view_is
    (subst (λ (ns : List ℕ). All (λ p. entries_of p.number ns g.list ≡ p.mine) c.args.passes.items)
    c.self.invariant.numbers
    (All-tail (λ p. HasItsOwn g p) c.self.inside.own c.args.passes.items c.close_with.ensures.own))

pub returns-clause-places : goal.returns-clause-places
returns-clause-places c k below =
    let v = c.self.invariant in
    places-others c.self.inside.journal c.self.inside.own c.args.passes.items k
    (record { name = v.own_name; number = v.own_number; birth = v.birth; mine = v.own_mine })
    (c.close_with.ensures.places k (subst (λ (b : JournalValue). k < length b.list) (sym
    c.self.view_is) below))
