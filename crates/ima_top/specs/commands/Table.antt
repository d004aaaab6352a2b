-- The commands: which of them read, what refuses an input, and what is an output for it. Each
-- command has a row in each table, and the terms of the row are defined in the command's own file,
-- or in `Ran` if two commands share them.
use Rattle.std.specs.Prelude.{◌≡◌, ℕ, Bool, true, false, List, Option, None}
use Rattle.command_line.specs.declared.command.Command.{Command}
use Rattle.command_line.specs.declared.command.Command.TheVariants as command
use Rattle.ima_top.specs.commands.Audit.{IsAuditOutput}
use Rattle.ima_top.specs.commands.Buffers.{buffers_refusal, IsBuffersOutput}
use Rattle.ima_top.specs.commands.Carry.{carry_refusal, IsCarryOutput}
use Rattle.ima_top.specs.commands.Gen.{IsGenOutput}
use Rattle.ima_top.specs.commands.Label.{label_refusal, IsLabelOutput}
use Rattle.ima_top.specs.commands.List.{list_refusal, IsListOutput}
use Rattle.ima_top.specs.commands.Loads.{IsLoadsOutput}
use Rattle.ima_top.specs.commands.Policy.{policy_refusal, IsPolicyOutput}
use Rattle.ima_top.specs.commands.Ran.{script_refusal}
use Rattle.ima_top.specs.commands.Run.{run_refusal, IsRunOutput}

-- Whether the command reads its input. A command that doesn't is answered as if the input were
-- empty.
unfoldable pub reads : Command → Bool
reads command.List = true
reads command.Policy = true
reads command.Label = true
reads command.Run = true
reads command.Buffers = true
reads command.Carry = true
reads command.Audit = true
reads command.Loads = true
reads (command.Gen number) = false

-- the line that refuses an input outside the command's grammar
unfoldable pub refusal : Command → List ℕ → Option (List ℕ)
refusal command.List input = list_refusal input
refusal command.Policy input = policy_refusal input
refusal command.Label input = label_refusal input
refusal command.Run input = run_refusal input
refusal command.Buffers input = buffers_refusal input
refusal command.Carry input = carry_refusal input
refusal command.Audit input = script_refusal input
refusal command.Loads input = script_refusal input
refusal (command.Gen number) input = None

-- The bytes are an output for the input, of a run that is stuck or not, as the flag says. This is a
-- relation, not a function, since an input whose tasks run on threads has several outputs. A
-- command without tasks, or whose tasks never wait, is never stuck.
unfoldable pub IsOutput : Command → List ℕ → Bool → List ℕ → Type 0
IsOutput command.List input stuck output = (stuck ≡ false) × IsListOutput input output
IsOutput command.Policy input stuck output = (stuck ≡ false) × IsPolicyOutput input output
IsOutput command.Label input stuck output = (stuck ≡ false) × IsLabelOutput input output
IsOutput command.Run input stuck output = IsRunOutput input stuck output
IsOutput command.Buffers input stuck output = (stuck ≡ false) × IsBuffersOutput input output
IsOutput command.Carry input stuck output = (stuck ≡ false) × IsCarryOutput input output
IsOutput command.Audit input stuck output = IsAuditOutput input stuck output
IsOutput command.Loads input stuck output = IsLoadsOutput input stuck output
IsOutput (command.Gen number) input stuck output = (stuck ≡ false) × IsGenOutput number output
