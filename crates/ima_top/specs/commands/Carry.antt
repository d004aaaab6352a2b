-- The command `carry`: the measurement list that goes on from the one that an earlier boot left.
use Rattle.std.specs.Prelude.{◌≡◌, ℕ, List, ◌∷◌, ◌++◌, codes, map, flat_map, Option, IsOkAnd}
use Rattle.hash_algos.specs.declared.algo.Algo.TheVariants as algo
use Rattle.hex.specs.Hex.{encode_lower}
use Rattle.ima_templates.specs.declared.entry.Entry.{Entry}
use Rattle.measure_book.specs.Replay.{banks_of}
use Rattle.list_carry.specs.Books.{carried_on}
use Rattle.list_carry.specs.Form.{carried_form}
use Rattle.list_carry.specs.Grammar.{carry_of, line_text}
use Rattle.list_carry.specs.Text.{CarryValue}
use Rattle.list_carry.specs.declared.line_cause.CarryLine.{CarryLine}
use Rattle.list_format.specs.Line.{ascii_line}
use Rattle.report_text.specs.Report.{pcr_lines}
use Rattle.script_words.specs.declared.fault.Fault.{Fault}
use Rattle.text_forms.specs.Words.{text_of}
use Rattle.ima_top.specs.Line.{with_newline}
use Rattle.ima_top.specs.commands.BadLine.{bad_line_by, refusal_by}
use Rattle.ima_top.specs.commands.Entries.{boot_entry, file_entry}

-- the entries that the boot of the text adds: its boot aggregate, and then its files in order
abbrev pub entries_in : CarryValue → List Entry
entries_in t =
    boot_entry (record { algo = algo.Sha256; bytes = t.boot }) ∷ map file_entry t.files

-- the carried list with these entries; an entry that is already in the list isn't added
abbrev pub carried_list : CarryValue → List Entry
carried_list t = carried_on t.carried (entries_in t)

-- the carried form of the list as a line, which the text of the next boot has
abbrev pub form_line : List Entry → List ℕ
form_line list = with_newline (codes "carried hex:" ++ encode_lower (carried_form list))

-- a line for each entry, each register that the whole list replays to, and the carried form
abbrev pub carry_text : List Entry → List ℕ
carry_text list =
    (flat_map ascii_line list ++ text_of (pcr_lines list (banks_of list))) ++ form_line list

-- the output for a carry text
abbrev pub carry_out : CarryValue → List ℕ
carry_out t = carry_text (carried_list t)

-- the fault as a line `line L: CAUSE`
abbrev pub bad_carry_line : Fault CarryLine → List ℕ
bad_carry_line f = bad_line_by line_text f

-- the line that refuses an input that isn't a carry text
unfoldable pub carry_refusal : List ℕ → Option (List ℕ)
carry_refusal input = refusal_by line_text (carry_of input)

-- the output for a carry text is the text of the list that goes on from the carried one
unfoldable pub IsCarryOutput : List ℕ → List ℕ → Type 0
IsCarryOutput input output = IsOkAnd (carry_of input) (λ t. output ≡ carry_out t)
