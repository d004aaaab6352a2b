use Rattle.std.proofs.Common.{sym, arith}
use Rattle.order_outcomes.proofs.Placing.{place_end, place_here, place_later, place_none, place_start}
use Rattle.order_outcomes.proofs.sets.place_for.Goals as goal

pub loop-place-init : goal.loop-place-init
loop-place-init c = record {
  found = place_start c.args.text.now c.args.texts.now;
  within = omega arith;
}

pub returns-in-Less-clause-place : goal.returns-in-Less-clause-place
returns-in-Less-clause-place c =
    place_here c.args.text.now c.args.texts.now c.loop-place.place c.index-texts-place.result
    c.loop-place-test.true c.index-texts-place.is c.loop-place.invariant.found
    (rw (← c.as_slice.ensures.bytes) (sym c.in-Less.ensures))

pub returns-in-Equal-clause-place : goal.returns-in-Equal-clause-place
returns-in-Equal-clause-place c =
    place_none c.args.text.now c.args.texts.now c.loop-place.place c.index-texts-place.result
    c.loop-place-test.true c.index-texts-place.is c.loop-place.invariant.found
    (rw (← c.as_slice.ensures.bytes) (sym c.in-Equal.ensures))

pub loop-place-preserved : goal.loop-place-preserved
loop-place-preserved c = record {
  found = place_later c.args.text.now c.args.texts.now c.loop-place.place
      c.index-texts-place.result c.loop-place-test.true c.index-texts-place.is
      c.loop-place.invariant.found (rw (← c.as_slice.ensures.bytes) (sym c.in-Greater.ensures));
  within = omega arith;
}

pub returns-clause-place : goal.returns-clause-place
returns-clause-place c =
    place_end c.args.text.now c.args.texts.now c.loop-place.place c.loop-place-test.false
    c.loop-place.invariant.within c.loop-place.invariant.found
