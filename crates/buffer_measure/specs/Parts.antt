-- The lines of a list's entries, made in parts.
use Rattle.std.specs.Prelude.{◌≡◌, ℕ, ◌<◌, true, List, [], length, get_or, Option, Some, None, IfSome, is_some, map}
use Rattle.std.specs.Global.{Vec}
use Rattle.report_text.specs.Report.{entry_words}
use Rattle.script_text.specs.events.forms.Words.{text_of}
use Rattle.script_text.specs.steps.templates.declared.entry.Entry.{Entry}

abbrev pub entries_text : List Entry → List ℕ
entries_text list = text_of (map entry_words list)

-- a part, unless memory ran out, has the lines of these entries
abbrev pub IsPart : List Entry → Option (Vec ℕ) → Type 0
IsPart entries part = IfSome part (λ text. text.items ≡ entries_text entries)

-- the entries that a part is made of
abbrev pub entries_in : Vec Entry → List Entry
entries_in job = job.items

-- each part has the lines of the entries at its place
abbrev pub ArePartsOf : List (Vec Entry) → List (Option (Vec ℕ)) → Type 0
ArePartsOf jobs parts = (n : ℕ) (job : Vec Entry) (d : Option (Vec ℕ)) → n < length jobs
    → IsPart (get_or jobs n job).items (get_or parts n d)

-- the bytes of a part
abbrev pub part_bytes : Option (Vec ℕ) → List ℕ
part_bytes None = []
part_bytes (Some text) = text.items

abbrev pub IsMade : Option (Vec ℕ) → Type 0
IsMade part = is_some part ≡ true
