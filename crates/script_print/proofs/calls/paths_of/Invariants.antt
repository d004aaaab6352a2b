-- the paths of the files so far
use Rattle.std.proofs.Common.{◌≡◌, map, take}
use Rattle.script_text.specs.Forms.{path_of_block}
use Rattle.script_print.proofs.calls.paths_of.Given as goal

abbrev pub invariant-loop-file : goal.invariant-loop-file
invariant-loop-file l =
    map (λ p. p.now) l.paths.items ≡ map path_of_block (take l.file-index l.files)
