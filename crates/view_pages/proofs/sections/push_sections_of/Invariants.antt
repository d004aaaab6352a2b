use Rattle.std.proofs.Common.{take}
use Rattle.std.specs.List.{flat_map}
use Rattle.view_page.specs.Parts.{Pushed}
use Rattle.view_pages.specs.Sections.{section_at}
use Rattle.view_pages.proofs.sections.push_sections_of.Given as goal

-- the sections so far have been appended
abbrev pub invariant-loop-number : goal.invariant-loop-number
invariant-loop-number l =
    Pushed l.text l.fn.out.items l.out.items
    (flat_map (section_at l.text l.detail l.side l.shown l.inodes) (take l.number-index l.order))
