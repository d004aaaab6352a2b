use Rattle.std.proofs.Common.{◌≡◌, ◌==◌, drop}
use Rattle.std.specs.List.{list_any}
use Rattle.view_layout.proofs.scenery.is_among.Given as goal

-- the place is none of those so far
abbrev pub invariant-loop-other : goal.invariant-loop-other
invariant-loop-other l =
    list_any (λ p. p == l.place) (drop l.other-index l.places)
    ≡ list_any (λ p. p == l.place) l.places
