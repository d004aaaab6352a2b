use Rattle.xattr_store.proofs.Changed.{attrs-changed}
use Rattle.xattr_store.proofs.attrs.Attrs.change.Goals as goal

pub invariant_of-self-2 : goal.invariant_of-self-2
invariant_of-self-2 c =
    rw (c.change_within.ensures.items, c.in_ok-name.ensures.value, c.reserve.ensures.items)
    (attrs-changed _ _ _ c.requires.fits c.self.invariant)
