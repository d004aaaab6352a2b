-- The registers and the appended rules in a page.
use Rattle.std.specs.Prelude.{ℕ, ◌-◌, nat_lt, List, [], ◌∷◌, ◌++◌, length, take, if◌then◌else◌}
use Rattle.std.specs.List.{flat_map}
use Rattle.view_page.specs.journals.reading.words.declared.event.Span.{Span}
use Rattle.view_tables.specs.Entries.{word_1, word_2, word_3}
use Rattle.view_page.specs.Parts.{more}
use Rattle.view_page.specs.Words.{after_word, cut}
use Rattle.view_page.specs.declared.html.Table.TheVariants as table
use Rattle.view_page.specs.declared.part.Part.{Part}
use Rattle.view_page.specs.declared.part.Part.TheVariants as part

-- no more registers are shown: two banks have 24 each
abbrev pub most_registers : ℕ
most_registers = 48

-- no more appended rules are shown
abbrev pub most_rules : ℕ
most_rules = 50

-- its bank, its number, its value
abbrev pub register : List ℕ → Span → List Part
register text line =
    part.Table table.BankRow ∷ part.Text (cut 80 (word_1 text line)) ∷ part.Table table.Cell
    ∷ part.Text (cut 80 (word_2 text line)) ∷ part.Table table.HexCell
    ∷ part.Text (cut 80 (word_3 text line)) ∷ part.Table table.RowEnd ∷ []

abbrev pub register_rows : List ℕ → List Span → List Part
register_rows text lines = flat_map (register text) (take most_registers lines)

abbrev pub registers : List ℕ → List Span → List Part
registers text lines =
    part.Table table.Registers ∷ [] ++ register_rows text lines ++ part.Table table.TableEnd ∷ []

-- its place, who appended it, its text
abbrev pub rule : List ℕ → Span → List Part
rule text line =
    part.Table table.RuleRow ∷ part.Text (cut 1024 (after_word text line))
    ∷ part.Table table.RowEnd ∷ []

abbrev pub rule_rows : List ℕ → List Span → List Part
rule_rows text lines = flat_map (rule text) (take most_rules lines)

abbrev pub rules_shown : List ℕ → List Span → List Part
rules_shown text lines =
    part.Table table.Rules ∷ [] ++ rule_rows text lines ++ part.Table table.TableEnd ∷ []
    ++ more (part.Table table.More) (length lines - most_rules)
    (part.Table table.MoreEnd)

-- nothing if no rule was appended
abbrev pub rules : List ℕ → List Span → List Part
rules text lines = if nat_lt 0 (length lines) then rules_shown text lines else []
