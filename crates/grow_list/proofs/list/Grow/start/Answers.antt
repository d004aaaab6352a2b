-- The list's seat keeps the newborn view, and each new pass is fresh.
use Rattle.std.proofs.Common.{◌≡◌, ℕ, ◌<◌, List, [], ◌∷◌, ◌++◌, length, Some, sym, ap, ◌∙◌, subst, arith}
use Rattle.std.specs.Prelude.{slice_get}
use Rattle.grow_list.specs.declared.views.SeatView.TheVariants.{OfList}
use Rattle.grow_list.specs.Views.{listed, held}
use Rattle.grow_list.specs.Shown.{Passed, fresh}
use Rattle.grow_list.proofs.Closing.{fresh_in_order, fresh_pushed}
use Rattle.grow_list.proofs.Writes.{begins}
use Rattle.grow_list.proofs.list.Grow.start.Goals as goal

pub of_words-requires : goal.of_words-requires
of_words-requires g c = begins c.args.callers

pub loop-number-init : goal.loop-number-init
loop-number-init g c = record {
  name = c.in_ok-table.ensures.2;
  words = c.in_ok-table.ensures.0;
  first = c.in_ok-table.ensures.3;
  view = ap (λ m. m.0) c.in_ok-table.ensures.4;
  count = ap length c.in_ok-passes.ensures.items;
  room = c.in_ok-passes.ensures.exact;
  each = λ k within. absurd (omega (arith, ap length c.in_ok-passes.ensures.items));
}

pub take_number-requires : goal.take_number-requires
take_number-requires g c =
    let seat = c.loop-number.invariant in
    let callers = ap (λ v. (listed v).callers) seat.view in record {
      seat = seat.name;
      words = seat.words;
      view = seat.view ∙ ap (λ v. OfList (listed v)) (sym seat.view);
      due = omega arith;
      small = omega arith;
    }

pub loop-number-preserved : goal.loop-number-preserved
loop-number-preserved g c =
    let old = c.loop-number.invariant in
    let list = c.take_number.ensures.list in
    record {
      name = list.table_id ∙ old.name;
      words = old.words;
      first = list.id ∙ old.first;
      view = ap (λ m. m.0) list.me ∙ old.view;
      count = omega arith;
      room = c.push_reserved.ensures.capacity ∙ old.room;
      each = subst
          (λ (xs : List (Passed g.row.E.Denot)). (k : ℕ) → k < length xs → slice_get xs k
          ≡ Some (fresh c.take_number.new.list.table_id k))
          (sym (c.push_reserved.ensures.items ∙ (λ i. c.loop-number.passes.items ++ record {
            name = c.in_ok-place.ensures.table i;
            number = c.loop-number.number;
            seen = (held (c.in_ok-place.ensures.drawn i).0).seen;
            mine = (held (c.in_ok-place.ensures.drawn i).0).mine;
          } ∷ [])))
          (fresh_pushed _ _ _ _ list.table_id old.count old.each);
    }

pub invariant_of-grow : goal.invariant_of-grow
invariant_of-grow g c =
    let seat = c.loop-number.invariant in record {
      board = seat.name;
      words = seat.words;
      seat = record {
        first = seat.first;
        view = seat.view ∙ ap (λ v. OfList (listed v)) (sym seat.view);
        settled = ap (λ v. (listed v).pending) seat.view;
      };
      list = ap (λ v. (listed v).list) seat.view ∙ sym c.new.ensures.items;
      callers = ap (λ v. (listed v).callers) seat.view;
    }

pub returns-clause-each : goal.returns-clause-each
returns-clause-each g c =
    let count : length c.loop-number.passes.items ≡ c.args.callers = omega arith in
    fresh_in_order _ _ count c.loop-number.invariant.each
