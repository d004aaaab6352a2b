use Rattle.std.proofs.Common.{take}
use Rattle.std.specs.List.{flat_map}
use Rattle.view_page.specs.Parts.{Pushed}
use Rattle.view_pages.specs.Section.{attr}
use Rattle.view_pages.proofs.section.push_attrs.Given as goal

-- the attributes so far have been appended
abbrev pub invariant-loop-line : goal.invariant-loop-line
invariant-loop-line l =
    Pushed l.text l.fn.out.items l.out.items
    (flat_map (attr l.text) (take l.line-index l.line-items))
