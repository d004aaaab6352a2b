-- Examples of words, each with the command that they name.
use Rattle.std.proofs.Common.{◌≡◌, [], ◌∷◌, Some, None, refl}
use Rattle.std.specs.Prelude.{codes}
use Rattle.command_line.specs.declared.command.Command.TheVariants as command
use Rattle.command_line.specs.Words.{command_of}

commands : (command_of (codes "list" ∷ []) ≡ Some command.List)
    × (command_of (codes "policy" ∷ []) ≡ Some command.Policy)
    × (command_of (codes "label" ∷ []) ≡ Some command.Label) × (command_of [] ≡ None)
    × (command_of (codes "run" ∷ []) ≡ Some command.Run)
    × (command_of (codes "buffers" ∷ []) ≡ Some command.Buffers)
    × (command_of (codes "carry" ∷ []) ≡ Some command.Carry)
    × (command_of (codes "audit" ∷ []) ≡ Some command.Audit)
    × (command_of (codes "loads" ∷ []) ≡ Some command.Loads)
    × (command_of (codes "gen" ∷ codes "7" ∷ []) ≡ Some (command.Gen 7))
    × (command_of (codes "gen" ∷ codes "07" ∷ []) ≡ None)
    × (command_of (codes "gen" ∷ []) ≡ None) × (command_of (codes "lists" ∷ []) ≡ None)
    × (command_of (codes "--help" ∷ []) ≡ None)
    × (command_of (codes "list" ∷ codes "list" ∷ []) ≡ None)
commands = (
  refl,
  refl,
  refl,
  refl,
  refl,
  refl,
  refl,
  refl,
  refl,
  refl,
  refl,
  refl,
  refl,
  refl,
  refl,
)
