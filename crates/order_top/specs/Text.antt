-- The text of the rows of orders that begin with the same turns.
use Rattle.std.specs.Prelude.{ℕ, List, ◌∷◌, ◌++◌, length, sum_by, codes}
use Rattle.std.specs.List.{flat_map}
use Rattle.order_runs.specs.outcomes.reports.Numerals.{numeral}
use Rattle.order_runs.specs.declared.rows.Row.{Row}

-- each turn after a space
abbrev pub turns_text : List ℕ → List ℕ
turns_text turns = flat_map (λ n. 32 ∷ numeral n) turns

-- the number of the orders, the schedule of the first with the turns that all begin with, and the
-- outcome
abbrev pub row_text : List ℕ → Row → List ℕ
row_text first row =
    codes "outcome " ++ numeral row.counted.count ++ codes "\nschedule" ++ turns_text first
    ++ turns_text row.counted.order ++ codes "\n" ++ row.outcome

abbrev pub total_count : List Row → ℕ
total_count rows = sum_by (λ (row : Row). row.counted.count) rows

abbrev pub head_text : List Row → List ℕ
head_text rows =
    codes "imakern orders 1\norders " ++ numeral (total_count rows) ++ codes " outcomes "
    ++ numeral (length rows) ++ codes "\n"

abbrev pub table_text : List ℕ → List Row → List ℕ
table_text first rows = head_text rows ++ flat_map (row_text first) rows ++ codes "end\n"
