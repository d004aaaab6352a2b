-- the lines of the files so far
use Rattle.std.proofs.Common.{◌≡◌, ◌++◌, take}
use Rattle.std.specs.List.{flat_map}
use Rattle.call_lines.specs.Lines.{lines_text}
use Rattle.script_spelling.specs.Spelling.{file_lines}
use Rattle.script_print.proofs.files.push_files.Given as goal

abbrev pub invariant-loop-file : goal.invariant-loop-file
invariant-loop-file l =
    l.out.items ≡ l.fn.out.items
    ++ flat_map (λ f. lines_text (file_lines f)) (take l.file-index l.files)
