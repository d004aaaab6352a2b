-- the lines of the names so far
use Rattle.std.proofs.Common.{◌≡◌, ◌++◌, take}
use Rattle.std.specs.List.{flat_map}
use Rattle.call_lines.specs.Lines.{line_text}
use Rattle.script_spelling.specs.Spelling.{name_line}
use Rattle.script_print.proofs.settings.push_names.Given as goal

abbrev pub invariant-loop-name : goal.invariant-loop-name
invariant-loop-name l =
    l.out.items ≡ l.fn.out.items
    ++ flat_map (λ w. line_text (name_line w)) (take l.name-index l.names)
