-- Reading a carried form, and the causes for which bytes are refused, in their order.
use Rattle.std.specs.Prelude.{◌≡◌, ℕ, zero, suc, ◌==◌, ◌&&◌, not, nat_le, nat_lt, Bool, true, false, List, [], ◌∷◌, ◌++◌, length, take, drop, slice_index, Option, Some, None, option_map, is_none, Result, Ok, Err, if◌then◌else◌, codes}
use Rattle.std.specs.List.{find}
use Rattle.std.specs.Str.{bytes_eq}
use Rattle.byteorder.specs.Endian.{little_number}
use Rattle.ima_templates.specs.Same.{place_of_same}
use Rattle.ima_templates.specs.declared.entry.Entry.{Entry}
use Rattle.ima_templates.specs.meta.declared.measurement.Template.{Template}
use Rattle.ima_templates.specs.meta.declared.measurement.Template.TheVariants.{Ima, ImaNg, ImaSig, ImaBuf}
use Rattle.carry_form.specs.declared.causes.CarryCause.{CarryCause}
use Rattle.carry_form.specs.declared.causes.CarryCause.TheVariants as cause
use Rattle.carry_form.specs.declared.causes.CarryErr.{CarryErr}
use Rattle.carry_form.specs.declared.causes.CarryErr.TheVariants as err
use Rattle.carry_form.specs.declared.records.Parts.{Parts}
use Rattle.carry_form.specs.Cut.{◌>>=◌, sized_in}
use Rattle.carry_form.specs.Entries.{entry_in}
use Rattle.carry_form.specs.Form.{flag, header_length, mark, template_number}

abbrev pub cause_word : CarryCause → List ℕ
cause_word cause.Header = codes "header"
cause_word cause.Short = codes "short"
cause_word cause.Trailing = codes "trailing"
cause_word cause.Record = codes "record"
cause_word cause.Twice = codes "twice"

-- ---- a record

-- whether this byte is that of a violation, if it is a flag
abbrev pub flag_by : ℕ → Option Bool
flag_by number = find (λ violation. flag violation == number) (true ∷ false ∷ [])

-- the template with this number, if there is one
abbrev pub template_by : ℕ → Option Template
template_by number =
    find (λ template. template_number template == number) (Ima ∷ ImaNg ∷ ImaSig ∷ ImaBuf ∷ [])

-- a record's parts, and the bytes after the record
pub record RecordParts : Type 0 where
  pub violation : Bool
  pub pcr : ℕ
  pub template : Template
  pub bytes : List ℕ
  pub rest : List ℕ

abbrev pub parts_of : Parts → RecordParts
parts_of p = record {
  violation = p.violation;
  pcr = p.pcr;
  template = p.template;
  bytes = p.bytes.now;
  rest = p.rest.now;
}

abbrev pub with_parts : ℕ → Bool → Template → List ℕ × List ℕ → RecordParts
with_parts pcr violation template p = record {
  violation = violation;
  pcr = pcr;
  template = template;
  bytes = p.0;
  rest = p.1;
}

-- the parts of a record, in the order in which it has them: a byte for a violation, the register in
-- 4 bytes, the template, and the template data after their length
abbrev pub six_then : ℕ → ℕ → ℕ → List ℕ → Option RecordParts
six_then first pcr sixth bytes =
    flag_by first >>= λ violation. template_by sixth
    >>= λ template. sized_in bytes >>= λ p. Some (with_parts pcr violation template p)

abbrev pub parts_in : List ℕ → Option RecordParts
parts_in bytes =
    if nat_le 6 (length bytes)
    then six_then (slice_index bytes 0) (little_number 4 (drop 1 bytes)) (slice_index bytes 5)
    (drop 6 bytes) else None

-- the entry of the first record, and the bytes after the record
unfoldable pub record_in : List ℕ → Option (Entry × List ℕ)
record_in bytes =
    parts_in bytes >>= λ p. entry_in p.pcr p.template p.violation p.bytes
    >>= λ e. Some (e, p.rest)

-- the entries of this number of records, if the bytes are those records and nothing else
abbrev pub records_in : ℕ → List ℕ → Option (List Entry)
records_in zero bytes = if length bytes == 0 then Some [] else None
records_in (suc n) bytes =
    record_in bytes >>= λ p. option_map (λ others. p.0 ∷ others) (records_in n p.1)

-- if `said` is an entry and the bytes after its record, the list gets the entry and these bytes are
-- left; else none are left
abbrev pub Takes : List Entry → List Entry → Option (List ℕ) → Option (Entry × List ℕ)
    → Type 0
Takes old new None said = said ≡ None
Takes old new (Some rest) None = ⊥
Takes old new (Some rest) (Some p) = (new ≡ old ++ p.0 ∷ []) × (p.1 ≡ rest)

-- ---- the whole form

-- the number of records that a header states
abbrev pub stated_count : List ℕ → ℕ
stated_count bytes = little_number 8 (drop 8 bytes)

-- the length of the whole that a header states
abbrev pub stated_length : List ℕ → ℕ
stated_length bytes = little_number 8 (drop 16 bytes)

-- the bytes begin with a header of version 1 that states at least one record
unfoldable pub has_header : List ℕ → Bool
has_header bytes =
    nat_le header_length (length bytes)
    && (bytes_eq (take 4 bytes) mark && little_number 4 (drop 4 bytes) == 1
    && not (stated_count bytes == 0))

-- the number of records, if the header is right
abbrev pub count_in : List ℕ → Result ℕ CarryCause
count_in bytes =
    if not (has_header bytes) then Err cause.Header
    else if nat_lt (length bytes) (stated_length bytes) then Err cause.Short
    else if nat_lt (stated_length bytes) (length bytes) then Err cause.Trailing
    else Ok (stated_count bytes)

-- no entry is the same as one before it or as one of `before`
abbrev pub all_new : List Entry → List Entry → Bool
all_new before [] = true
all_new before (e ∷ es) = is_none (place_of_same before e) && all_new (before ++ e ∷ []) es

-- the answer of adding entries, by whether all of them are new
abbrev pub if_new : Bool → Result (Unit {0}) CarryCause
if_new new = if new then Ok tt else Err cause.Twice

abbrev pub if_distinct : List Entry → Result (List Entry) CarryCause
if_distinct list = if all_new [] list then Ok list else Err cause.Twice

abbrev pub list_by : Option (List Entry) → Result (List Entry) CarryCause
list_by None = Err cause.Record
list_by (Some list) = if_distinct list

abbrev pub list_after : Result ℕ CarryCause → List ℕ → Result (List Entry) CarryCause
list_after (Err c) bytes = Err c
list_after (Ok count) bytes = list_by (records_in count bytes)

-- the list whose carried form these bytes are, or else the first cause that holds of them
unfoldable pub load_of : List ℕ → Result (List Entry) CarryCause
load_of bytes = list_after (count_in bytes) (drop header_length bytes)

-- a call returns the value that a definition gives, unless memory runs out
abbrev pub Loads : {X : Type 0} → Result X CarryErr → Result X CarryCause → Type 0
Loads (Ok x) said = said ≡ Ok x
Loads (Err err.OutOfMemory) said = Unit {0}
Loads (Err (err.Refused c)) said = said ≡ Err c
