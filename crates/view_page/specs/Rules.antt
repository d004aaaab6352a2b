-- The rules of the classes of a drawing, which are a constant of the program.
use Rattle.std.specs.Prelude.{ℕ, List}
use Rattle.std.specs.List.{flat_map}
use Rattle.view_page.specs.declared.rules.TheConstants.{RULES}

unfoldable pub rules : List ℕ
rules = flat_map (λ l. l.now) RULES
