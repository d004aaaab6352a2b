-- A carry text as contracts see it.
use Rattle.std.specs.Prelude.{ℕ, List, Option, IsTrue}
use Rattle.std.specs.List.{All}
use Rattle.ima_templates.specs.declared.entry.Entry.{Entry}
use Rattle.script_text.specs.ListGrammar.{Listed}
use Rattle.script_text.specs.events.forms.Paths.{is_path}

pub record CarryValue : Type 0 where
  -- the list of an earlier boot, if there is one
  pub carried : Option (List Entry)
  -- the digest of this boot's aggregate
  pub boot : List ℕ
  -- the files that this boot measures, in order
  pub files : List Listed

-- the paths are those that a file may have
abbrev pub HavePaths : List Listed → Type 0
HavePaths files = All (λ f. IsTrue (is_path f.0)) files
