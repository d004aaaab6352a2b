-- the entries at the places so far are at the other places
use Rattle.std.proofs.Common.{All, take}
use Rattle.order_told.specs.Told.{IsThere}
use Rattle.order_told.proofs.told.are_there.Given as goal

abbrev pub invariant-loop-place : goal.invariant-loop-place
invariant-loop-place l = All (IsThere l.list l.places l.other) (take l.place-index l.others)
