use Rattle.std.proofs.Common.{◌≡◌, ◌++◌, drop}
use Rattle.view_overview.specs.Overview.{marks_from}
use Rattle.view_page.specs.Parts.{page_of}
use Rattle.view_overview.proofs.overview.push_marks_of.Given as goal

-- the marks so far have been appended, and the others are left
abbrev pub invariant-loop-k : goal.invariant-loop-k
invariant-loop-k l =
    l.out.items ++ page_of l.text (marks_from l.rank l.width l.k (drop l.k l.buckets))
    ≡ l.fn.out.items ++ page_of l.text (marks_from l.rank l.width 0 l.buckets)
