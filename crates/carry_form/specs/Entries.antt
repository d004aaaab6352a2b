-- The entry whose template data some bytes are.
use Rattle.std.specs.Prelude.{ℕ, ◌==◌, ◌&&◌, ◌||◌, not, nat_le, nat_lt, Bool, true, false, List, length, Option, Some, None, if◌then◌else◌}
use Rattle.std.specs.List.{list_all}
use Rattle.ima_templates.specs.EntryValue.{all_fields}
use Rattle.ima_templates.specs.declared.entry.Entry.{Entry}
use Rattle.ima_templates.specs.meta.Registers.{default_pcr}
use Rattle.ima_templates.specs.meta.declared.measurement.Template.{Template}
use Rattle.ima_templates.specs.meta.declared.measurement.Template.TheVariants.{Ima, ImaNg, ImaSig, ImaBuf}
use Rattle.ima_templates.specs.xattrs.Attrs.{most_value}
use Rattle.carry_form.specs.Contents.{Fields, contents_in, is_zero}
use Rattle.carry_form.specs.Cut.{◌>>=◌}

-- a printing ASCII byte other than the space
abbrev pub is_graphic : ℕ → Bool
is_graphic b = nat_le 0x21 b && nat_le b 0x7e

-- the most bytes of a name
abbrev pub most_name : Template → ℕ
most_name Ima = 255
most_name ImaNg = 1024
most_name ImaSig = 1024
most_name ImaBuf = 1024

abbrev pub is_name : Template → List ℕ → Bool
is_name template name =
    nat_le 1 (length name) && nat_le (length name) (most_name template) && list_all is_graphic name

-- buffers have no violations
abbrev pub has_violations : Template → Bool
has_violations Ima = true
has_violations ImaNg = true
has_violations ImaSig = true
has_violations ImaBuf = false

-- a violation can have these contents of its fields
abbrev pub is_violation : ℕ → Template → Fields → Bool
is_violation pcr template f =
    pcr == default_pcr && list_all is_zero f.0.bytes && length f.2 == 0 && has_violations template

-- a valid entry can have these contents of its fields
abbrev pub is_valid : ℕ → Template → Bool → Fields → Bool
is_valid pcr template violation f =
    nat_lt pcr 24 && is_name template f.1 && nat_le (length f.2) most_value
    && (not violation || is_violation pcr template f)

-- an entry with these contents of its fields
abbrev pub entry_with : ℕ → Template → Bool → Fields → Entry
entry_with pcr template violation f = all_fields pcr template f.0 f.1 f.2 violation

abbrev pub entry_by : ℕ → Template → Bool → Fields → Option Entry
entry_by pcr template violation f =
    if is_valid pcr template violation f then Some (entry_with pcr template violation f) else None

-- the entry of this register and template, a violation or not, whose template data these bytes are
unfoldable pub entry_in : ℕ → Template → Bool → List ℕ → Option Entry
entry_in pcr template violation bytes =
    contents_in template bytes >>= entry_by pcr template violation
