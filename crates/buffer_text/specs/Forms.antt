-- The invariant of a text of buffers: the forms of its parts, their lengths and their numbers.
use Rattle.std.specs.Prelude.{◌≡◌, ℕ, ◌≤◌, Bool, true, ◌&&◌, not, nat_le, length}
use Rattle.std.specs.List.{list_all, sum_by}
use Rattle.script_text.specs.events.forms.Words.{is_word}
use Rattle.script_text.specs.Forms.{are_bytes, is_cred}
use Rattle.script_text.specs.Limits.{most_bytes, most_rules, most_threads, most_value}
use Rattle.buffer_text.specs.Limits.{most_callers, most_lines}
use Rattle.buffer_text.specs.Text.{Buffer, BufferValue, CallerValue}

abbrev pub is_buffer : Buffer → Bool
is_buffer line =
    is_word 255 line.0 && (nat_le (length line.1) most_value && are_bytes line.1)

abbrev pub is_caller : CallerValue → Bool
is_caller c = (is_cred c.cred && not c.cred.admin) && list_all is_buffer c.lines

abbrev pub lines_of : CallerValue → ℕ
lines_of c = length c.lines

abbrev pub bytes_in : Buffer → ℕ
bytes_in line = length line.1

abbrev pub bytes_of : CallerValue → ℕ
bytes_of c = sum_by bytes_in c.lines

-- each part has the form of its line, and the limits hold
pub record IsBufferText (t : BufferValue) : Type 0 where
  pub callers : list_all is_caller t.callers ≡ true
  pub callers_few : length t.callers ≤ most_callers
  pub rules_few : length t.rules ≤ most_rules
  pub lines_few : sum_by lines_of t.callers ≤ most_lines
  pub bytes_few : sum_by bytes_of t.callers ≤ most_bytes
  pub threads_some : 1 ≤ t.threads
  pub threads_few : t.threads ≤ most_threads
