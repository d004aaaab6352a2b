-- The command `list`: the measurement list of a list text's files, and its registers.
use Rattle.std.specs.Prelude.{◌≡◌, ℕ, List, [], ◌∷◌, ◌++◌, map, flat_map, true, Option, IsOkAnd}
use Rattle.std.specs.List.{fold}
use Rattle.hash_algos.specs.declared.algo.Algo.TheVariants as algo
use Rattle.hash_algos.specs.Digest.{zero_digest}
use Rattle.inode_meta.specs.Registers.{default_pcr}
use Rattle.ima_templates.specs.declared.entry.Entry.{Entry}
use Rattle.ima_templates.specs.Same.{add}
use Rattle.measure_book.specs.Replay.{banks_of}
use Rattle.list_format.specs.Line.{ascii_line}
use Rattle.report_text.specs.Report.{pcr_lines_at}
use Rattle.script_text.specs.ListGrammar.{Listed, list_of}
use Rattle.text_forms.specs.Words.{text_of}
use Rattle.ima_top.specs.commands.BadLine.{refusal_of}
use Rattle.ima_top.specs.commands.Entries.{boot_entry, file_entry}

-- the boot aggregate of a system in which nothing was measured before the kernel
abbrev pub zero_boot : Entry
zero_boot = boot_entry (zero_digest algo.Sha256)

-- the entries of the files are added in order; an entry that is already in the list isn't added
abbrev pub measured : List Listed → List Entry
measured files = fold add (zero_boot ∷ []) (map file_entry files)

-- a line for each entry, and then register 10 in both banks, as the entries replay to it
abbrev pub list_text : List Entry → List ℕ
list_text list =
    flat_map ascii_line list ++ text_of (pcr_lines_at (banks_of list) default_pcr true)

-- the line that refuses an input that isn't a list text
unfoldable pub list_refusal : List ℕ → Option (List ℕ)
list_refusal input = refusal_of (list_of input)

-- the output for a list text is the text of its files' measurement list
unfoldable pub IsListOutput : List ℕ → List ℕ → Type 0
IsListOutput input output = IsOkAnd (list_of input) (λ files. output ≡ list_text (measured files))
