use Rattle.std.proofs.Common.{take}
use Rattle.std.specs.List.{flat_map}
use Rattle.view_page.specs.Parts.{Pushed}
use Rattle.view_tables.specs.Tables.{register}
use Rattle.view_tables.proofs.tables.push_register_rows.Given as goal

-- the rows so far have been appended
abbrev pub invariant-loop-line : goal.invariant-loop-line
invariant-loop-line l =
    Pushed l.text l.fn.out.items l.out.items
    (flat_map (register l.text) (take l.line-index l.line-items))
