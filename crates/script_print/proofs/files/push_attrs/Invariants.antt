-- the lines of the attributes so far
use Rattle.std.proofs.Common.{◌≡◌, ◌++◌, take}
use Rattle.std.specs.List.{flat_map}
use Rattle.call_lines.specs.Lines.{line_text}
use Rattle.script_spelling.specs.Spelling.{attr_line}
use Rattle.script_print.proofs.files.push_attrs.Given as goal

abbrev pub invariant-loop-attr : goal.invariant-loop-attr
invariant-loop-attr l =
    l.out.items ≡ l.fn.out.items
    ++ flat_map (λ a. line_text (attr_line a)) (take l.attr-index l.attrs)
