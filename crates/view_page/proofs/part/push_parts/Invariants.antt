use Rattle.std.proofs.Common.{◌≡◌, ◌++◌, take}
use Rattle.view_page.specs.Parts.{page_of}
use Rattle.view_page.proofs.part.push_parts.Given as goal

-- the parts so far have been appended
abbrev pub invariant-loop-part : goal.invariant-loop-part
invariant-loop-part l =
    l.out.items ≡ l.fn.out.items ++ page_of l.text (take l.part-index l.parts)
