use Rattle.xattr_store.proofs.Changed.{value_fits}
use Rattle.xattr_store.proofs.attrs.Attrs.value_fits.Goals as goal

pub returns : goal.returns
returns c = rw (← c.self.view_is) (value_fits _ _ c.self.invariant)
