-- The program as `clap` is given it: one subcommand for each command.
use Rattle.std.specs.Prelude.{ℕ, List, [], ◌∷◌, Option, true, codes, map, option_and_then}
use Rattle.clap.specs.Simple.{App, Shape, new_app, new_rule, new_shape, on_top, with_rule, with_subcommand}
use Rattle.clap.specs.Walk.{Row, Text, first_of}
use Rattle.command_line.specs.Words.{command_by, lone_commands}
use Rattle.command_line.specs.declared.command.Command.{Command}

-- the program without its subcommands: it has no options, help or version, and needs a subcommand
abbrev pub bare : App
bare = on_top (λ s. record s {
  no_binary_name = true;
  disable_help_flag = true;
  disable_help_subcommand = true;
  disable_version_flag = true;
  subcommand_required = true;
}) (new_app (codes "imakern"))

-- a subcommand that takes one number
abbrev pub numbered : List ℕ → Shape
numbered name =
    (with_rule (new_app name) (record (new_rule (codes "number")) { required = true })).top

-- the program with a subcommand for each of these words
abbrev pub with_words : App → List (List ℕ) → App
with_words a [] = a
with_words a (word ∷ words) = with_words (with_subcommand a (new_shape word)) words

abbrev pub program : App
program =
    with_words (with_subcommand bare (numbered (codes "gen"))) (map (λ e. e.0) lone_commands)

-- the command of the subcommand that the parser met, with the rows of its arguments
abbrev pub command_met : Option (Text × List Row) → Option Command
command_met = option_and_then (λ met. command_by met.0 (first_of (codes "number") met.1))
