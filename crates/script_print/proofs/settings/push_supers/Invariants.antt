-- the lines of the file systems so far
use Rattle.std.proofs.Common.{◌≡◌, ◌++◌, take}
use Rattle.std.specs.List.{flat_map}
use Rattle.call_lines.specs.Lines.{line_text}
use Rattle.script_spelling.specs.Spelling.{super_line}
use Rattle.script_print.proofs.settings.push_supers.Given as goal

abbrev pub invariant-loop-fs : goal.invariant-loop-fs
invariant-loop-fs l =
    l.out.items ≡ l.fn.out.items
    ++ flat_map (λ s. line_text (super_line s)) (take l.fs-index l.supers)
