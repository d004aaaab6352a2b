use Rattle.std.proofs.Common.{arith, ltb-false, subst, sym, ◌∙◌}
use Rattle.std.proofs.lemmas.Option.{get_or_from_slice_get, slice_get_within}
use Rattle.order_told.specs.Told.{IsAt}
use Rattle.order_told.proofs.told.is_there.Goals as goal

pub returns-in-Some : goal.returns-in-Some
returns-in-Some c = λ t e at.
    subst (IsAt c.args.list.now c.args.places.now)
    (c.in-Some.ensures.lookup.1
    ∙ get_or_from_slice_get c.args.other.now c.args.place e c.in-Some.entry.now at)
    (c.is_at.ensures t)

pub returns-in-None : goal.returns-in-None
returns-in-None c = λ _ e at.
    absurd
    (omega (
      arith,
      slice_get_within c.args.other.now c.args.place e at,
      ltb-false _ _ (sym c.in-None.ensures.lookup.0),
    ))
