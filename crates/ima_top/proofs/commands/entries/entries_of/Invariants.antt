-- the entries are those of the boot aggregate and of the files so far
use Rattle.std.proofs.Common.{◌≡◌, ◌∷◌, map, take}
use Rattle.ima_top.specs.commands.Entries.{boot_entry, file_entry}
use Rattle.ima_top.proofs.commands.entries.entries_of.Given as goal

abbrev pub invariant-loop-file : goal.invariant-loop-file
invariant-loop-file l =
    l.entries.items ≡ boot_entry l.boot ∷ map file_entry (take l.file-index l.files)
