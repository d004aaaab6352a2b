-- The paths and names that entries can show.
use Rattle.std.specs.Prelude.{◌≡◌, ℕ, ◌==◌, ◌≤◌, List, length}
use Rattle.std.specs.List.{All, after_last}
use Rattle.std.specs.Str.{byte}
use Rattle.inode_meta.specs.declared.measurement.Template.{Template}
use Rattle.inode_meta.specs.declared.measurement.Template.TheVariants.{Ima}

-- a printing ASCII byte other than the space
abbrev pub IsGraphic : ℕ → Type 0
IsGraphic b = (0x21 ≤ b) × (b ≤ 0x7e)

-- the part after a path's last slash, or the whole path if it has none
abbrev pub last_component : List ℕ → List ℕ
last_component path = after_last (λ b. b == byte "/") path

-- a path, or the name of a buffer, that a template can show
pub record IsMeasuredPath (template : Template) (path : List ℕ) : Type 0 where
  pub not_empty : 1 ≤ length path
  pub at_most : length path ≤ 1024
  pub graphic : All IsGraphic path
  pub component : template ≡ Ima
      → (1 ≤ length (last_component path)) × (length (last_component path) ≤ 255)
