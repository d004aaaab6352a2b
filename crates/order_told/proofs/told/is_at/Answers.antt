use Rattle.std.proofs.Common.{get_or}
use Rattle.std.proofs.lemmas.Option.{slice_get-get_or}
use Rattle.order_told.proofs.told.is_at.Goals as goal

pub returns-then-is_entry_at : goal.returns-then-is_entry_at
returns-then-is_entry_at c = λ _.
    let places = c.args.places.now in
    let k = c.loop-place.place-index in (
      k,
      (
        get_or places k 0,
        (
          slice_get-get_or places k 0 c.loop-place-test.true,
          c.is_entry_at.ensures c.if-is_entry_at.true,
        ),
      ),
    )
