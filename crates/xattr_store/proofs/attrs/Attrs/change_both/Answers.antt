use Rattle.xattr_store.proofs.Changed.{attrs-changed}
use Rattle.xattr_store.proofs.attrs.Attrs.change_both.Goals as goal

pub change_within-requires-2-clause-attrs : goal.change_within-requires-2-clause-attrs
change_within-requires-2-clause-attrs c =
    rw (c.change_within.ensures.items, c.in_ok-name.ensures.value, c.reserve.ensures.items)
    (attrs-changed _ _ _ c.requires.fits c.self.invariant)

pub invariant_of-self-2 : goal.invariant_of-self-2
invariant_of-self-2 c =
    rw (
      c.change_within-2.ensures.items,
      c.in_ok-second_name.ensures.value,
      c.change_within.ensures.items,
      c.in_ok-name.ensures.value,
      c.reserve.ensures.items,
    )
    (attrs-changed _ _ _ c.requires.second_fits
    (attrs-changed _ _ _ c.requires.fits c.self.invariant))
