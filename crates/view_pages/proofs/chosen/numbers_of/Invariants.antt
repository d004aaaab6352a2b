use Rattle.std.proofs.Common.{◌≡◌, ◌++◌, drop}
use Rattle.view_pages.specs.Pair.{most_pairs, numbers_from}
use Rattle.view_pages.proofs.chosen.numbers_of.Given as goal

-- the numbers so far, and those of the other inodes
abbrev pub invariant-loop-number : goal.invariant-loop-number
invariant-loop-number l =
    l.numbers.items
    ++ numbers_from l.text l.number l.room (drop l.number l.first) (drop l.number l.second)
    ≡ numbers_from l.text 0 most_pairs l.first l.second
