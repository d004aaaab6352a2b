-- the words, and the numbers so far
use Rattle.std.proofs.Common.{◌≡◌, ◌∷◌, ◌++◌, map, take}
use Rattle.report_events.specs.Numerals.{numeral}
use Rattle.std.specs.List.{join_with_byte}
use Rattle.report_events.proofs.push.push_numbers.Given as goal

abbrev pub invariant-loop-number : goal.invariant-loop-number
invariant-loop-number l =
    l.out.items ≡ l.fn.out.items
    ++ join_with_byte 32 (l.words ∷ map numeral (take l.number-index l.numbers))
