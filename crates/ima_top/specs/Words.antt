-- The line for words that don't name a command, and whether the words ask for an input.
use Rattle.std.specs.Prelude.{ℕ, Bool, false, List, codes, Option, Some, None}
use Rattle.command_line.specs.declared.command.Command.{Command}
use Rattle.ima_top.specs.commands.Table.{reads}

-- the line that is written to the note if the words don't name a command
abbrev pub usage_line : List ℕ
usage_line =
    codes "usage: imakern list | run | policy | label | gen N | buffers | carry | audit | loads\n"

-- the words name a command that reads its input
abbrev pub reads_input : Option Command → Bool
reads_input None = false
reads_input (Some command) = reads command
