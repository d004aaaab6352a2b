-- The bytes of a buffer: themselves, or those that the word of a text gives.
use Rattle.std.specs.Prelude.{ℕ, Bool, true, List, [], is_some, unwrap_or}
use Rattle.script_text.specs.Limits.{most_value}
use Rattle.script_text.specs.script_lines.Value.{value_of}
use Rattle.buffer_text.specs.declared.bytes.Held.{Held}
use Rattle.buffer_text.specs.declared.bytes.Held.TheVariants as held

abbrev pub bytes_held : Held → List ℕ
bytes_held (held.Bytes bytes) = bytes
bytes_held (held.Word word) = unwrap_or (value_of 0 most_value word) []

-- a word gives bytes
abbrev pub gives_bytes : Held → Bool
gives_bytes (held.Bytes bytes) = true
gives_bytes (held.Word word) = is_some (value_of 0 most_value word)
