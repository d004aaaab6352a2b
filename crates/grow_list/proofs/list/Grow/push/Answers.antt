-- The seats have moved to the views after a push, so list and pass agree.
use Rattle.std.proofs.Common.{◌<◌, List, [], ◌∷◌, ◌++◌, length, All, sym, ap, ◌∙◌, subst, arith}
use mathlib.Core.List.{IsPrefix}
use Rattle.grow_list.specs.declared.views.SeatView.TheVariants.{OfList, OfPass}
use Rattle.grow_list.specs.Entries.{entries_of}
use Rattle.grow_list.specs.Views.{listed, held}
use Rattle.grow_list.proofs.list.Grow.push.Goals as goal

pub invariant_of-self : goal.invariant_of-self
invariant_of-self g c =
    let old = c.self.invariant in
    let new = c.add_through_pass.ensures.list in
    let view = ap (λ m. m.0) new.me in
    record {
      board = new.table_id ∙ old.board;
      words = old.words;
      seat = record {
        first = new.id ∙ old.seat.first;
        view = view ∙ ap (λ v. OfList (listed v)) (sym view);
        settled = ap (λ v. (listed v).pending) view;
      };
      list = ap (λ v. (listed v).list) view ∙ ap (λ xs. xs ++ c.args.entry ∷ []) old.list
          ∙ sym c.push_reserved.ensures.items;
      callers = ap (λ v. (listed v).callers) view ∙ old.callers;
    }

pub invariant_of-pass : goal.invariant_of-pass
invariant_of-pass g c =
    let old = c.pass.invariant in
    let new = c.add_through_pass.ensures.pass in
    let view = ap (λ m. m.0) new.me in
    record {
      seat = record {
        own = new.id ∙ old.seat.own ∙ ap (λ v. (held v).seat) (sym view);
        view = view ∙ ap (λ v. OfPass (held v)) (sym view);
      };
      slots = ap (λ m. m.1) new.me ∙ old.slots;
      number = ap (λ v. (held v).number) view ∙ old.number;
    }

pub returns-clause-list : goal.returns-clause-list
returns-clause-list g c =
    c.push_reserved.ensures.items ∙ ap (λ v. v.list ++ c.args.entry ∷ []) c.self.view_is

pub returns-clause-numbers : goal.returns-clause-numbers
returns-clause-numbers g c =
    let number = c.pass.invariant.number ∙ ap (λ v. v.number) c.pass.view_is in
    ap (λ m. (listed m.0).numbers) c.add_through_pass.ensures.list.me
    ∙ (λ i. (c.self.view_is i).numbers ++ number i ∷ [])

pub returns-clause-before : goal.returns-clause-before
returns-clause-before g c =
    let list = c.self.invariant.list ∙ ap (λ v. v.list) c.self.view_is in
    subst (λ (x : List g.row.E.Denot × List g.row.E.Denot). IsPrefix x.0 x.1)
    (λ i. ((c.pass.view_is i).seen, list i)) c.add_through_pass.ensures.tallies.seen

pub returns-clause-seen : goal.returns-clause-seen
returns-clause-seen g c =
    ap (λ m. (held m.0).seen) c.add_through_pass.ensures.pass.me
    ∙ ap (λ xs. xs ++ c.args.entry ∷ []) c.self.invariant.list ∙ sym c.push_reserved.ensures.items

pub returns-clause-own : goal.returns-clause-own
returns-clause-own g c =
    let list = (invariant_of-self g c).list in
    let number = (invariant_of-pass g c).number in
    (λ i. entries_of (sym number i) (listed c.add_through_pass.new.list.me.0).numbers (sym list i))
    ∙ c.add_through_pass.ensures.after.own

pub returns-clause-placed : goal.returns-clause-placed
returns-clause-placed g c =
    subst (λ (xs : List g.row.E.Denot). All (λ x. x.0 < length xs)
    (held c.add_through_pass.new.pass.me.0).mine)
    (invariant_of-self g c).list c.add_through_pass.ensures.after.placed

pub returns-clause-number : goal.returns-clause-number
returns-clause-number g c =
    omega (
      arith,
      c.add_through_pass.ensures.after.number,
      (invariant_of-self g c).callers,
      (invariant_of-pass g c).number,
    )

pub returns-clause-even : goal.returns-clause-even
returns-clause-even g c =
    c.add_through_pass.ensures.after.even ∙ ap length (invariant_of-self g c).list
