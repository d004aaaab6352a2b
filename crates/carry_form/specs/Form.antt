-- The carried form of a measurement list. Numbers are little-endian.
use Rattle.std.specs.Prelude.{ℕ, ◌+◌, ◌≤◌, Bool, true, false, List, [], ◌∷◌, ◌++◌, length, codes}
use Rattle.std.specs.List.{All, flat_map}
use Rattle.byteorder.specs.Endian.{little_bytes}
use Rattle.ima_templates.specs.Data.{sized, template_data}
use Rattle.ima_templates.specs.IsEntry.{IsEntry}
use Rattle.ima_templates.specs.Same.{IsDistinct}
use Rattle.ima_templates.specs.declared.entry.Entry.{Entry}
use Rattle.ima_templates.specs.meta.declared.measurement.Template.{Template}
use Rattle.ima_templates.specs.meta.declared.measurement.Template.TheVariants.{Ima, ImaNg, ImaSig, ImaBuf}

-- the byte for a violation, and for another entry
abbrev pub flag : Bool → ℕ
flag true = 1
flag false = 0

abbrev pub template_number : Template → ℕ
template_number Ima = 0
template_number ImaNg = 1
template_number ImaSig = 2
template_number ImaBuf = 3

-- whether it is a violation, the register in 4 bytes, and the template
abbrev pub record_head : Entry → List ℕ
record_head e = flag e.violation ∷ [] ++ little_bytes 4 e.pcr ++ template_number e.template ∷ []

-- the record of an entry: its head, and the template data after their length in 4 bytes
unfoldable pub record_of : Entry → List ℕ
record_of e = record_head e ++ sized (template_data e)

abbrev pub records_of : List Entry → List ℕ
records_of list = flat_map record_of list

abbrev pub mark : List ℕ
mark = codes "IMAL"

-- the length of the header in bytes
abbrev pub header_length : ℕ
header_length = 24

-- the mark, version 1 in 4 bytes, the number of records in 8, and the length of the whole in 8
unfoldable pub header : ℕ → ℕ → List ℕ
header count whole = mark ++ little_bytes 4 1 ++ little_bytes 8 count ++ little_bytes 8 whole

-- the length of the whole form in bytes
abbrev pub form_length : List Entry → ℕ
form_length list = header_length + length (records_of list)

abbrev pub carried_form : List Entry → List ℕ
carried_form list = header (length list) (form_length list) ++ records_of list

-- a list that has a carried form
pub record IsCarried (list : List Entry) : Type 0 where
  pub not_empty : 1 ≤ length list
  pub entries : All IsEntry list
  pub distinct : IsDistinct list
