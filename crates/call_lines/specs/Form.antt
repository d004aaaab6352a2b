-- The forms of the words of a call: what a word of each form says, how it is read, and how it is
-- written.
use Rattle.std.specs.Prelude.{ℕ, Bool, true, false, ◌&&◌, nat_le, nat_lt, List, [], ◌∷◌, ◌++◌, length, codes, decimal, Option, Some, None, unwrap_or, slice_get, Result, Err, ok_or, if◌then◌else◌}
use Rattle.std.specs.Fmt.{digits}
use Rattle.std.specs.List.{list_all}
use Rattle.call_steps.specs.Forms.{is_offset, is_portion, is_small}
use Rattle.hex.specs.Hex.{encode_lower}
use Rattle.text_forms.specs.Paths.{is_path}
use Rattle.text_forms.specs.Tables.{look_up}
use Rattle.text_forms.specs.Words.{is_word}
use Rattle.script_words.specs.declared.fault.LineCause.{LineCause}
use Rattle.script_words.specs.declared.fault.LineCause.TheVariants as cause
use Rattle.script_words.specs.Forms.{descriptor_of, id_of, mode_of, offset_of, portion_of, small_of}
use Rattle.script_words.specs.Value.{value_of}
use Rattle.call_lines.specs.Places.{place_in}

-- the form of one word
pub data Form : Type 0 where
  Descriptor : Form
  -- the number of a map, a run or a semaphore
  Small : Form
  Offset : Form
  -- the length of one read
  Portion : Form
  Mode : Form
  -- the number of a user or a group
  Id : Form
  -- how a descriptor is mapped: for execution, or only for reading
  Mapping : Form
  -- the name of an attribute
  Name : Form
  -- bytes, at least and at most as many
  Bytes : ℕ → ℕ → Form
  -- the path of a file, which says the file's number
  Path : Form

-- what a word of the form says
abbrev pub Value : Form → Type 0
Value Descriptor = ℕ
Value Small = ℕ
Value Offset = ℕ
Value Portion = ℕ
Value Mode = ℕ
Value Id = ℕ
Value Mapping = Bool
Value Name = List ℕ
Value (Bytes least most) = List ℕ
Value Path = ℕ

-- how a word of one form is read and written
pub record Spelling (A : Type 0) : Type 0 where
  -- what the word says, or the cause for which its line is refused, if the files have these paths
  pub read : List (List ℕ) → List ℕ → Result A LineCause
  -- the canonical word, if the files have these paths
  pub word : List (List ℕ) → A → List ℕ
  -- whether a word can say this in a script with this many files
  pub fits : ℕ → A → Bool

-- ---- numbers and bytes

-- a number below 256
abbrev pub is_byte : ℕ → Bool
is_byte b = nat_lt b 256

-- each number of the list is a byte
abbrev pub are_bytes : List ℕ → Bool
are_bytes bytes = list_all is_byte bytes

-- the number of a user or a group, or a generation
abbrev pub is_id : ℕ → Bool
is_id n = nat_le n 0xffff_ffff

-- a mode has at most 16 bits
abbrev pub is_mode : ℕ → Bool
is_mode n = nat_le n 0xffff

-- a descriptor is at most 255
abbrev pub is_descriptor : ℕ → Bool
is_descriptor n = nat_le n 255

-- bytes, at least `least` and at most `most` of them
abbrev pub is_value : ℕ → ℕ → List ℕ → Bool
is_value least most v = nat_le least (length v) && nat_le (length v) most && are_bytes v

-- the octal digits of a number
abbrev pub octal : ℕ → List ℕ
octal n = digits 8 false n

-- bytes as a word: `hex:`, and two lower-case digits for each byte
abbrev pub hex_text : List ℕ → List ℕ
hex_text bytes = codes "hex:" ++ encode_lower bytes

-- ---- words

-- the name of an attribute, 1 to 255 visible bytes
abbrev pub name_of : List ℕ → Option (List ℕ)
name_of text = if is_word 255 text then Some text else None

-- whether a descriptor is mapped for execution, by the word for it
abbrev pub mapping_of : List ℕ → Option Bool
mapping_of text = look_up ((codes "read", false) ∷ (codes "exec", true) ∷ []) text

-- the word for how a descriptor is mapped
abbrev pub mapping_word : Bool → List ℕ
mapping_word true = codes "exec"
mapping_word false = codes "read"

-- the number of the path's file
abbrev pub inode_at : List (List ℕ) → List ℕ → Result ℕ LineCause
inode_at paths path = if is_path path then ok_or (place_in paths path) cause.Unknown
    else Err cause.BadField

-- the path of the file of this number
abbrev pub path_at : List (List ℕ) → ℕ → List ℕ
path_at paths n = unwrap_or (slice_get paths n) []

-- a form that doesn't depend on the files
abbrev pub spelling : {A : Type 0} → (List ℕ → Option A) → (A → List ℕ) → (A → Bool) → Spelling A
spelling value_of word fits = record {
  read = λ paths text. ok_or (value_of text) cause.BadField;
  word = λ paths. word;
  fits = λ files. fits;
}

-- the table of the forms
abbrev pub form : (f : Form) → Spelling (Value f)
form Descriptor = spelling descriptor_of decimal is_descriptor
form Small = spelling small_of decimal is_small
form Offset = spelling offset_of decimal is_offset
form Portion = spelling portion_of decimal is_portion
form Mode = spelling mode_of octal is_mode
form Id = spelling id_of decimal is_id
form Mapping = spelling mapping_of mapping_word (λ exec. true)
form Name = spelling name_of (λ name. name) (is_word 255)
form (Bytes least most) = spelling (value_of least most) hex_text (is_value least most)
form Path = record {
  read = inode_at;
  word = path_at;
  fits = λ files inode. nat_lt inode files;
}
