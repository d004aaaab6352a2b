-- What a call line of a script can say: the ranges of its numbers and the lengths of its bytes.
use Rattle.std.specs.Prelude.{ℕ, Bool, true, ◌&&◌, ◌||◌, not, nat_le, nat_lt, List, length, Option, Some, None}
use Rattle.inode_events.specs.pages.Content.{most_bytes}
use Rattle.inode_events.specs.Files.{is_writer}
use Rattle.inode_events.specs.forms.Words.{is_word}
use Rattle.call_steps.specs.declared.call.Call.{Call}
use Rattle.call_steps.specs.declared.call.Call.TheVariants as call

-- whether an offset or length is in range
abbrev pub is_offset : ℕ → Bool
is_offset n = nat_le n 0xffff_ffff

-- whether the number of a map, run or semaphore is in range
abbrev pub is_small : ℕ → Bool
is_small n = nat_lt n 64

-- whether this number of bytes may be read or written at once
abbrev pub is_portion : ℕ → Bool
is_portion n = nat_le 1 n && nat_le n most_bytes

-- whether a value may be given for an attribute; it may be longer than an attribute can hold
abbrev pub is_set_value : Option (List ℕ) → Bool
is_set_value None = true
is_set_value (Some value) = nat_le (length value) 8192

-- whether a call is one of a script with this number of files; numbers not mentioned are limited
-- only by their type
abbrev pub is_call : ℕ → Call → Bool
is_call files (call.Open fd inode how trunc) = nat_lt inode files && (is_writer how || not trunc)
is_call files (call.Read fd from len) = is_offset from && is_portion len
is_call files (call.Write fd from bytes) = is_offset from && is_portion (length bytes)
is_call files (call.Ftruncate fd len) = is_offset len
is_call files (call.Close fd) = true
is_call files (call.Mmap map fd exec) = is_small map
is_call files (call.Mread map from len) = is_small map && is_offset from && is_portion len
is_call files (call.Munmap map) = is_small map
is_call files (call.Exec run inode) = is_small run && nat_lt inode files
is_call files (call.Endexec run) = is_small run
is_call files (call.SetAttr inode name value) = nat_lt inode files && is_word 255 name
    && is_set_value value
is_call files (call.SetMeta inode change) = nat_lt inode files
is_call files (call.Post sem) = is_small sem
is_call files (call.Wait sem) = is_small sem
is_call files (call.AddRule rule) = true
is_call files (call.Module inode) = nat_lt inode files
is_call files (call.Firmware inode) = nat_lt inode files
