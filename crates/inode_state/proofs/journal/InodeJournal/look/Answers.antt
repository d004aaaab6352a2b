use Rattle.std.proofs.Common.{◌≡◌, ◌<◌, sym, ◌∙◌, ap, subst, List, ℕ, map}
use Rattle.std.specs.Prelude.{All}
use Rattle.grow_list.specs.Entries.{entries_of}
use Rattle.inode_events.specs.Callers.{caller_of}
use Rattle.inode_events.specs.Legal.{Legal}
use Rattle.inode_events.specs.NewestFirst.{newest_first}
use Rattle.journal_laws.specs.Own.{IsOwned}
use Rattle.journal_laws.proofs.Looking.{tells}
use Rattle.journal_laws.specs.OwnLaws.{TellsByMine}
use Rattle.inode_state.specs.Fields.{inode_in}
use Rattle.inode_state.specs.Value.{JournalValue}
use Rattle.inode_state.proofs.journal.InodeJournal.look.Goals as goal

pub returns-clause-tells : goal.returns-clause-tells
returns-clause-tells c =
    let g = c.self.inside.journal in
    let e = c.look.ensures in
    let n = c.look.new.pass.number in
    let mine : entries_of n c.look.new.self.numbers c.look.new.self.list ≡ c.look.new.pass.mine =
    e.own in
    subst (λ (v : JournalValue). TellsByMine v.inode n c.args.pass.now.seen v.list
    c.look.new.pass.mine) c.self.view_is
    (tells (inode_in c.self.inside) n c.args.pass.now.seen g.list c.look.new.pass.mine
    c.self.invariant.legal.1 c.self.invariant.owned e.before
    (ap (λ (ns : List ℕ). entries_of n ns g.list) (sym c.self.invariant.numbers
    ∙ sym e.list.numbers) ∙ ap (λ l. entries_of n c.look.new.self.numbers l) (sym e.list.list)
    ∙ mine))

pub returns-clause-own : goal.returns-clause-own
returns-clause-own c =
    let g = c.self.inside.journal in
    let e = c.look.ensures in
    let n = c.look.new.pass.number in
    let mine : entries_of n c.look.new.self.numbers c.look.new.self.list ≡ c.look.new.pass.mine =
    e.own in
    subst (λ (v : JournalValue). entries_of n (map caller_of v.list) v.list ≡ c.look.new.pass.mine)
    c.self.view_is
    (ap (λ (ns : List ℕ). entries_of n ns g.list) (sym c.self.invariant.numbers
    ∙ sym e.list.numbers) ∙ ap (λ l. entries_of n c.look.new.self.numbers l) (sym e.list.list)
    ∙ mine)

pub returns-clause-legal : goal.returns-clause-legal
returns-clause-legal c =
    subst (λ (v : JournalValue). Legal v.inode (newest_first v.list)) c.self.view_is
    c.self.invariant.legal

pub returns-clause-owned : goal.returns-clause-owned
returns-clause-owned c =
    subst (λ (v : JournalValue). IsOwned (newest_first v.list)) c.self.view_is
    c.self.invariant.owned

pub returns-clause-within : goal.returns-clause-within
returns-clause-within c =
    subst (λ (v : JournalValue). All (λ e. caller_of e < v.callers) v.list) c.self.view_is
    c.self.invariant.within
