use Rattle.std.proofs.Common.{◌≡◌, ◌++◌, drop}
use Rattle.view_pages.specs.Pair.{most_pairs, pairs_from}
use Rattle.view_page.specs.Parts.{page_of}
use Rattle.view_pages.proofs.pair.push_pairs_of.Given as goal

-- the inodes so far have been appended, and the others are left
abbrev pub invariant-loop-number : goal.invariant-loop-number
invariant-loop-number l =
    l.out.items
    ++ page_of l.text (pairs_from l.text l.number l.room (drop l.number l.first)
    (drop l.number l.second))
    ≡ l.fn.out.items ++ page_of l.text (pairs_from l.text 0 most_pairs l.first l.second)
