-- the turns so far
use Rattle.std.proofs.Common.{◌≡◌, ◌∷◌, ◌++◌, take}
use Rattle.std.specs.Prelude.{decimal}
use Rattle.std.specs.List.{flat_map}
use Rattle.script_print.proofs.calls.push_turns.Given as goal

abbrev pub invariant-loop-turn : goal.invariant-loop-turn
invariant-loop-turn l =
    l.out.items ≡ l.fn.out.items ++ flat_map (λ t. 32 ∷ decimal t) (take l.turn-index l.turns)
