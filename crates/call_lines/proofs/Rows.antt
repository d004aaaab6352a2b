-- What holds of each row of the table.
use Rattle.std.proofs.Common.{◌≡◌, ℕ, ◌+◌, Bool, true, nat_le, Some, None, refl}
use Rattle.call_steps.specs.declared.call.Call.{Call}
use Rattle.call_steps.specs.declared.call.Call.TheVariants as call
use Rattle.call_steps.specs.events.declared.deed.Change.TheVariants as change
use Rattle.call_lines.specs.Arguments.{Alone, Arguments, Forms, Rule, Said, Way, Words, ◌▸◌}
use Rattle.call_lines.specs.Calls.{made}
use Rattle.call_lines.specs.Lines.{begins_line, is_plain}
use Rattle.call_lines.specs.Rules.{HasReadRule, SaysReadRule}
use Rattle.call_lines.specs.Table.{Spoken, call_word_of, row, spoken, told}
use Rattle.call_lines.specs.declared.table.CallWord.{CallWord}
use Rattle.call_lines.specs.declared.table.CallWord.TheVariants as word

-- the line of a row's call says what made the call
pub spoken-made : (w : CallWord) (s : Said (row w).arguments)
    → spoken (made w s) ≡ record { word = w; said = s }
spoken-made word.Open s = refl
spoken-made word.Read s = refl
spoken-made word.Write s = refl
spoken-made word.Ftruncate s = refl
spoken-made word.Close s = refl
spoken-made word.Mmap s = refl
spoken-made word.Mread s = refl
spoken-made word.Munmap s = refl
spoken-made word.Exec s = refl
spoken-made word.Endexec s = refl
spoken-made word.SetAttr s = refl
spoken-made word.RemoveAttr s = refl
spoken-made word.Chmod s = refl
spoken-made word.Chown s = refl
spoken-made word.Post s = refl
spoken-made word.Wait s = refl
spoken-made word.AddRule s = refl
spoken-made word.Module s = refl
spoken-made word.Firmware s = refl

-- a call is made of what its line says
pub made-spoken : (c : Call) → made (spoken c).word (spoken c).said ≡ c
made-spoken (call.Open fd inode how trunc) = refl
made-spoken (call.Read fd from len) = refl
made-spoken (call.Write fd from bytes) = refl
made-spoken (call.Ftruncate fd len) = refl
made-spoken (call.Close fd) = refl
made-spoken (call.Mmap map fd exec) = refl
made-spoken (call.Mread map from len) = refl
made-spoken (call.Munmap map) = refl
made-spoken (call.Exec run inode) = refl
made-spoken (call.Endexec run) = refl
made-spoken (call.SetAttr inode name (Some value)) = refl
made-spoken (call.SetAttr inode name None) = refl
made-spoken (call.SetMeta inode (change.Mode mode)) = refl
made-spoken (call.SetMeta inode (change.Owner uid gid)) = refl
made-spoken (call.Post sem) = refl
made-spoken (call.Wait sem) = refl
made-spoken (call.AddRule rule) = refl
made-spoken (call.Module inode) = refl
made-spoken (call.Firmware inode) = refl

-- a line can begin with the word of a row, and has the kind of that row
pub record IsFirst (w : CallWord) : Type 0 where
  pub begins : begins_line (row w).word ≡ true
  pub plain : is_plain (row w).word ≡ true
  pub kind : call_word_of (row w).word ≡ Some w

-- the word of each row can begin a line, which then has the kind of that row
pub first_word : (w : CallWord) → IsFirst w
first_word word.Open = record { begins = refl; plain = refl; kind = refl }
first_word word.Read = record { begins = refl; plain = refl; kind = refl }
first_word word.Write = record { begins = refl; plain = refl; kind = refl }
first_word word.Ftruncate = record { begins = refl; plain = refl; kind = refl }
first_word word.Close = record { begins = refl; plain = refl; kind = refl }
first_word word.Mmap = record { begins = refl; plain = refl; kind = refl }
first_word word.Mread = record { begins = refl; plain = refl; kind = refl }
first_word word.Munmap = record { begins = refl; plain = refl; kind = refl }
first_word word.Exec = record { begins = refl; plain = refl; kind = refl }
first_word word.Endexec = record { begins = refl; plain = refl; kind = refl }
first_word word.SetAttr = record { begins = refl; plain = refl; kind = refl }
first_word word.RemoveAttr = record { begins = refl; plain = refl; kind = refl }
first_word word.Chmod = record { begins = refl; plain = refl; kind = refl }
first_word word.Chown = record { begins = refl; plain = refl; kind = refl }
first_word word.Post = record { begins = refl; plain = refl; kind = refl }
first_word word.Wait = record { begins = refl; plain = refl; kind = refl }
first_word word.AddRule = record { begins = refl; plain = refl; kind = refl }
first_word word.Module = record { begins = refl; plain = refl; kind = refl }
first_word word.Firmware = record { begins = refl; plain = refl; kind = refl }

-- the most words of these forms
abbrev pub most_words : Forms → ℕ
most_words Alone = 0
most_words Way = 3
most_words (f ▸ fs) = most_words fs + 1

-- a line of at most nine words after the first, all of which are read
abbrev pub is_short : Arguments → Bool
is_short Rule = true
is_short (Words fs) = nat_le (most_words fs) 9

-- every row has at most nine words after its first
pub short_row : (w : CallWord) → is_short (row w).arguments ≡ true
short_row word.Open = refl
short_row word.Read = refl
short_row word.Write = refl
short_row word.Ftruncate = refl
short_row word.Close = refl
short_row word.Mmap = refl
short_row word.Mread = refl
short_row word.Munmap = refl
short_row word.Exec = refl
short_row word.Endexec = refl
short_row word.SetAttr = refl
short_row word.RemoveAttr = refl
short_row word.Chmod = refl
short_row word.Chown = refl
short_row word.Post = refl
short_row word.Wait = refl
short_row word.AddRule = refl
short_row word.Module = refl
short_row word.Firmware = refl

-- what a function makes of a call's line, it makes of what the line says
pub told-spoken : {X : Type 0} (f : Spoken → X) (c : Call) → told f c ≡ f (spoken c)
told-spoken f (call.Open fd inode how trunc) = refl
told-spoken f (call.Read fd from len) = refl
told-spoken f (call.Write fd from bytes) = refl
told-spoken f (call.Ftruncate fd len) = refl
told-spoken f (call.Close fd) = refl
told-spoken f (call.Mmap map fd exec) = refl
told-spoken f (call.Mread map from len) = refl
told-spoken f (call.Munmap map) = refl
told-spoken f (call.Exec run inode) = refl
told-spoken f (call.Endexec run) = refl
told-spoken f (call.SetAttr inode name (Some value)) = refl
told-spoken f (call.SetAttr inode name None) = refl
told-spoken f (call.SetMeta inode (change.Mode mode)) = refl
told-spoken f (call.SetMeta inode (change.Owner uid gid)) = refl
told-spoken f (call.Post sem) = refl
told-spoken f (call.Wait sem) = refl
told-spoken f (call.AddRule rule) = refl
told-spoken f (call.Module inode) = refl
told-spoken f (call.Firmware inode) = refl

-- the rule that a call appends is the one that its line says
pub says_rule : (c : Call) → HasReadRule c
    → SaysReadRule (row (spoken c).word).arguments (spoken c).said
says_rule (call.Open fd inode how trunc) h = tt
says_rule (call.Read fd from len) h = tt
says_rule (call.Write fd from bytes) h = tt
says_rule (call.Ftruncate fd len) h = tt
says_rule (call.Close fd) h = tt
says_rule (call.Mmap map fd exec) h = tt
says_rule (call.Mread map from len) h = tt
says_rule (call.Munmap map) h = tt
says_rule (call.Exec run inode) h = tt
says_rule (call.Endexec run) h = tt
says_rule (call.SetAttr inode name (Some value)) h = tt
says_rule (call.SetAttr inode name None) h = tt
says_rule (call.SetMeta inode (change.Mode mode)) h = tt
says_rule (call.SetMeta inode (change.Owner uid gid)) h = tt
says_rule (call.Post sem) h = tt
says_rule (call.Wait sem) h = tt
says_rule (call.AddRule rule) h = h
says_rule (call.Module inode) h = tt
says_rule (call.Firmware inode) h = tt
