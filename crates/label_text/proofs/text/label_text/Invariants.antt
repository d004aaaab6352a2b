-- the text is the lines of the files so far
use Rattle.std.proofs.Common.{◌≡◌, take}
use Rattle.std.specs.List.{flat_map}
use Rattle.label_text.specs.Labels.{file_lines}
use Rattle.label_text.proofs.text.label_text.Given as goal

abbrev pub invariant-loop-file : goal.invariant-loop-file
invariant-loop-file l = (l.text.items
    ≡ flat_map (file_lines l.script) (take l.file-index l.script.files))
