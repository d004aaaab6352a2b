use Rattle.xattr_store.proofs.attrs.Attrs.new.Goals as goal

pub invariant_of-result : goal.invariant_of-result
invariant_of-result c = rw c.new.ensures.items tt
