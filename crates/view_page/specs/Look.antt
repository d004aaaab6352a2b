-- How pages look: their style, and the legend, which are the constants of the program.
use Rattle.std.specs.Prelude.{ℕ, List}
use denote.Ref.{Bor}
use Rattle.std.specs.List.{flat_map}
use Rattle.view_page.specs.declared.look.TheConstants.{LEGEND, STYLE}

abbrev pub lines_of : List (Bor (List ℕ)) → List ℕ
lines_of lines = flat_map (λ l. l.now) lines

unfoldable pub style : List ℕ
style = flat_map (λ l. l.now) STYLE

unfoldable pub legend : List ℕ
legend = flat_map (λ l. l.now) LEGEND
