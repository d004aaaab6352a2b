use Rattle.std.proofs.Common.{◌≡◌, ◌++◌, drop}
use Rattle.view_page.specs.Parts.{page_of}
use Rattle.view_sentences.specs.Sentences.{named_from}
use Rattle.view_sentences.proofs.named.push_named.Given as goal

-- the holders so far have been appended, and the others are left
abbrev pub invariant-loop-n : goal.invariant-loop-n
invariant-loop-n l =
    l.out.items ++ page_of l.text (named_from l.journal l.n (drop l.n l.files))
    ≡ l.fn.out.items ++ page_of l.text (named_from l.journal 0 l.files)
