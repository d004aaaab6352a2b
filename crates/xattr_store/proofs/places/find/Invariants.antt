use Rattle.xattr_store.specs.Places.{IsPast}
use Rattle.xattr_store.proofs.places.find.Given as goal

-- the names passed so far come before the name being searched for
abbrev pub invariant-loop-place : goal.invariant-loop-place
invariant-loop-place l = IsPast l.name l.pairs l.place
