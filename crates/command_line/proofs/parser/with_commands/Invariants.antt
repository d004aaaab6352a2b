use Rattle.std.proofs.Common.{◌≡◌, drop, map}
use Rattle.clap.specs.Words.{app_of}
use Rattle.command_line.specs.Program.{with_words}
use Rattle.command_line.proofs.parser.with_commands.Given as goal

-- the words that are left complete the program
abbrev pub invariant-loop-name : goal.invariant-loop-name
invariant-loop-name l =
    with_words (app_of l.program) (map (λ name. name.now) (drop l.name-index l.names))
    ≡ with_words (app_of l.initial.program) (map (λ name. name.now) l.names)
