-- Examples of texts and words, each with its result.
use Rattle.std.proofs.Common.{◌≡◌, ℕ, true, false, List, [], ◌∷◌, Option, Some, None, Ok, refl}
use Rattle.std.specs.Prelude.{codes}
use Rattle.command_line.specs.declared.command.Command.TheVariants as command
use Rattle.script_words.specs.declared.fault.LineCause.TheVariants.{NoEnd}
use Rattle.ima_top.specs.commands.BadLine.{bad_line}
use Rattle.ima_top.specs.commands.Buffers.{buffers_refusal}
use Rattle.ima_top.specs.commands.Carry.{bad_carry_line, carried_list, carry_refusal}
use Rattle.ima_top.specs.commands.Label.{label_refusal}
use Rattle.ima_top.specs.commands.List.{list_refusal, measured, zero_boot}
use Rattle.script_text.specs.ListGrammar.{Listed, list_of}
use Rattle.hash_algos.specs.Digest.{zero_digest}
use Rattle.hash_algos.specs.declared.algo.Algo.TheVariants.{Sha256}
use Rattle.list_carry.specs.declared.line_cause.CarryLine.TheVariants.{Line}
use Rattle.ima_top.specs.commands.Policy.{policy_refusal}
use Rattle.ima_top.specs.commands.Ran.{script_refusal}
use Rattle.ima_top.specs.commands.Run.{run_refusal}
use Rattle.ima_top.specs.Served.{Serves}
use Rattle.ima_top.specs.commands.Table.{IsOutput, reads, refusal}
use Rattle.command_line.specs.declared.command.Command.{Command}
use Rattle.ima_top.specs.Statuses as exit

two_files : list_of (codes "imalist 1\nfile /a txt:abc\nfile /e txt:\nend\n")
    ≡ Ok ((codes "/a", codes "abc") ∷ (codes "/e", []) ∷ [])
two_files = refl

-- if no file is measured, the list has only the boot aggregate
boot_alone : measured [] ≡ zero_boot ∷ []
boot_alone = refl

no_list : list_refusal [] ≡ Some (bad_line (record { line = 1; cause = NoEnd }))
unfolding list_refusal
no_list = refl

no_script : label_refusal [] ≡ Some (bad_line (record { line = 1; cause = NoEnd }))
unfolding label_refusal
no_script = refl

no_run : run_refusal [] ≡ Some (bad_line (record { line = 1; cause = NoEnd }))
unfolding run_refusal
no_run = refl

none_to_run : script_refusal [] ≡ Some (bad_line (record { line = 1; cause = NoEnd }))
unfolding script_refusal
none_to_run = refl

no_buffers : buffers_refusal [] ≡ Some (bad_line (record { line = 1; cause = NoEnd }))
unfolding buffers_refusal
no_buffers = refl

no_carry : carry_refusal []
    ≡ Some (bad_carry_line (record { line = 1; cause = Line NoEnd }))
unfolding carry_refusal
no_carry = refl

-- without a carried list and with zeros as the boot aggregate, the list is that of `list`
carried_from_nothing : (files : List Listed)
    → carried_list (record { carried = None; boot = (zero_digest Sha256).bytes; files = files })
    ≡ measured files
carried_from_nothing files = refl

no_rule : policy_refusal [] ≡ None
unfolding policy_refusal
no_rule = refl

all_read : (reads command.List ≡ true) × (reads command.Policy ≡ true)
    × (reads command.Label ≡ true) × (reads command.Run ≡ true) × (reads command.Buffers ≡ true)
    × (reads command.Carry ≡ true) × (reads command.Audit ≡ true) × (reads command.Loads ≡ true)
unfolding reads
all_read = (refl, refl, refl, refl, refl, refl, refl, refl)

-- `gen` doesn't read its input, and no input is refused
gen_reads_nothing : (number : ℕ) → reads (command.Gen number) ≡ false
unfolding reads
gen_reads_nothing number = refl

gen_is_never_refused : (number : ℕ) (input : List ℕ) → refusal (command.Gen number) input ≡ None
unfolding refusal
gen_is_never_refused number input = refl

-- ---- no command but `run`, `audit` and `loads` has a stuck run

abbrev IsNeverStuck : Command → Type 0
IsNeverStuck command = (input output : List ℕ) → IsOutput command input true output → ⊥

list_is_never_stuck : IsNeverStuck command.List
unfolding IsOutput
list_is_never_stuck input output h = absurd (cc (h.0))

policy_is_never_stuck : IsNeverStuck command.Policy
unfolding IsOutput
policy_is_never_stuck input output h = absurd (cc (h.0))

label_is_never_stuck : IsNeverStuck command.Label
unfolding IsOutput
label_is_never_stuck input output h = absurd (cc (h.0))

buffers_is_never_stuck : IsNeverStuck command.Buffers
unfolding IsOutput
buffers_is_never_stuck input output h = absurd (cc (h.0))

carry_is_never_stuck : IsNeverStuck command.Carry
unfolding IsOutput
carry_is_never_stuck input output h = absurd (cc (h.0))

gen_is_never_stuck : (number : ℕ) → IsNeverStuck (command.Gen number)
unfolding IsOutput
gen_is_never_stuck number input output h = absurd (cc (h.0))

-- a command whose runs are never stuck doesn't have the status `stuck`
no_stuck_status : (command : Command) → IsNeverStuck command → (input : List ℕ) (status : ℕ)
    (old new : Option (List ℕ)) (told : List ℕ → Type 0)
    → Serves command input status old new told → status ≡ exit.stuck → ⊥
no_stuck_status command never input status old new told serves is =
    let (output, is_output, written) = serves.written_stuck is in never input output is_output
