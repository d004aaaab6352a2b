use Rattle.xattr_store.proofs.OrderKept.{attrs-put}
use Rattle.xattr_store.proofs.attrs.Attrs.set.Goals as goal

pub invariant_of-self-2 : goal.invariant_of-self-2
invariant_of-self-2 c =
    rw c.in_ok-put_value.ensures (attrs-put _ _ _ c.if-value-gt-MAX_VALUE.false c.self.invariant)
