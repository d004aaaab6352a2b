-- The list's seat keeps its view, and the pass has caught up.
use Rattle.std.proofs.Common.{ℕ, ◌<◌, List, length, All, sym, ap, ◌∙◌, subst, arith}
use mathlib.Core.List.{IsPrefix}
use Rattle.grow_list.specs.declared.views.SeatView.TheVariants.{OfList, OfPass}
use Rattle.grow_list.specs.Entries.{entries_of}
use Rattle.grow_list.specs.Views.{listed, held}
use Rattle.grow_list.proofs.list.Grow.look.Goals as goal

pub invariant_of-self : goal.invariant_of-self
invariant_of-self g c =
    let old = c.self.invariant in
    let new = c.pass_sees_list.ensures.list in
    let view = ap (λ m. m.0) new.me in
    record {
      board = new.table_id ∙ old.board;
      words = old.words;
      seat = record {
        first = new.id ∙ old.seat.first;
        view = view ∙ old.seat.view ∙ ap (λ v. OfList (listed v)) (sym view);
        settled = ap (λ v. (listed v).pending) view ∙ old.seat.settled;
      };
      list = ap (λ v. (listed v).list) view ∙ old.list;
      callers = ap (λ v. (listed v).callers) view ∙ old.callers;
    }

pub invariant_of-pass : goal.invariant_of-pass
invariant_of-pass g c =
    let old = c.pass.invariant in
    let new = c.pass_sees_list.ensures.pass in
    let view = ap (λ m. m.0) new.me in
    record {
      seat = record {
        own = new.id ∙ old.seat.own ∙ ap (λ v. (held v).seat) (sym view);
        view = view ∙ ap (λ v. OfPass (held v)) (sym view);
      };
      slots = ap (λ m. m.1) new.me ∙ old.slots;
      number = ap (λ v. (held v).number) view ∙ old.number;
    }

pub returns-clause-list : goal.returns-clause-list
returns-clause-list g c =
    let new = c.pass_sees_list.ensures.list in
    record {
      name = new.table_id ∙ ap (λ v. v.name) c.self.view_is;
      callers = ap (λ v. v.callers) c.self.view_is;
      list = ap (λ v. v.list) c.self.view_is;
      numbers = ap (λ m. (listed m.0).numbers) new.me ∙ ap (λ v. v.numbers) c.self.view_is;
    }

pub returns-clause-before : goal.returns-clause-before
returns-clause-before g c =
    let list = c.self.invariant.list ∙ ap (λ v. v.list) c.self.view_is in
    subst (λ (x : List g.row.E.Denot × List g.row.E.Denot). IsPrefix x.0 x.1)
    (λ i. ((c.pass.view_is i).seen, list i)) c.pass_sees_list.ensures.tallies.seen

pub returns-clause-seen : goal.returns-clause-seen
returns-clause-seen g c =
    ap (λ m. (held m.0).seen) c.pass_sees_list.ensures.pass.me ∙ c.self.invariant.list

pub returns-clause-mine : goal.returns-clause-mine
returns-clause-mine g c =
    ap (λ m. (held m.0).mine) c.pass_sees_list.ensures.pass.me ∙ ap (λ v. v.mine) c.pass.view_is

pub returns-clause-own : goal.returns-clause-own
returns-clause-own g c =
    let numbers = ap (λ m. (listed m.0).numbers) c.pass_sees_list.ensures.list.me in
    let mine = ap (λ m. (held m.0).mine) c.pass_sees_list.ensures.pass.me in
    (λ i. entries_of (sym c.pass.invariant.number i) (numbers i) (sym c.self.invariant.list i))
    ∙ c.pass_sees_list.ensures.tallies.own ∙ sym mine

pub returns-clause-placed : goal.returns-clause-placed
returns-clause-placed g c =
    let mine = ap (λ m. (held m.0).mine) c.pass_sees_list.ensures.pass.me in
    subst (λ (x : List (ℕ × g.row.E.Denot) × List g.row.E.Denot). All (λ y. y.0 < length x.1) x.0)
    (λ i. (sym mine i, c.self.invariant.list i)) c.pass_sees_list.ensures.tallies.placed

pub returns-clause-number : goal.returns-clause-number
returns-clause-number g c =
    omega (
      arith,
      c.pass_sees_list.ensures.tallies.number,
      c.self.invariant.callers,
      c.pass.invariant.number,
    )

pub returns-clause-even : goal.returns-clause-even
returns-clause-even g c =
    ap (λ m. length (listed m.0).numbers) c.pass_sees_list.ensures.list.me
    ∙ c.pass_sees_list.ensures.tallies.even ∙ ap length c.self.invariant.list
