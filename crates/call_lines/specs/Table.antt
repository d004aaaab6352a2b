-- The table of the calls: for each its first word, the forms of the words after it, and the call.
use Rattle.std.specs.Prelude.{ℕ, List, [], ◌∷◌, codes, map, Option, Some, None}
use Rattle.call_steps.specs.declared.call.Call.{Call}
use Rattle.call_steps.specs.declared.call.Call.TheVariants as call
use Rattle.call_steps.specs.events.declared.deed.Change.TheVariants as change
use Rattle.call_steps.specs.events.pages.Content.{most_bytes}
use Rattle.text_forms.specs.Tables.{look_up}
use Rattle.call_lines.specs.Form.{Descriptor, Small, Offset, Portion, Mode, Id, Mapping, Name, Bytes, Path}
use Rattle.call_lines.specs.Arguments.{Forms, Alone, Way, ◌▸◌, Arguments, Rule, Words, Of, OfSaid, Said, each_by}
use Rattle.call_lines.specs.declared.table.CallWord.{CallWord}
use Rattle.call_lines.specs.declared.table.CallWord.TheVariants as word

-- the bytes of one `write`
abbrev pub most_write : ℕ
most_write = most_bytes

-- the bytes of a `setxattr`, which may be more than an attribute can have
abbrev pub most_set : ℕ
most_set = 8192

-- a row of the table: the line of one kind of call
pub record Row : Type 0 where
  -- the first word
  pub word : List ℕ
  -- the form of what comes after it
  pub arguments : Arguments
  -- the call, from what the arguments say
  pub call : OfSaid arguments Call

-- a row whose arguments are words
abbrev pub line : List ℕ → (fs : Forms) → Of fs Call → Row
line word fs call = record { word = word; arguments = Words fs; call = call }

-- the table of the calls
abbrev pub row : CallWord → Row
row word.Open = line (codes "open") (Descriptor ▸ Path ▸ Way) call.Open
row word.Read = line (codes "read") (Descriptor ▸ Offset ▸ Portion ▸ Alone) call.Read
row word.Write = line (codes "write") (Descriptor ▸ Offset ▸ Bytes 1 most_write ▸ Alone) call.Write
row word.Ftruncate = line (codes "ftruncate") (Descriptor ▸ Offset ▸ Alone) call.Ftruncate
row word.Close = line (codes "close") (Descriptor ▸ Alone) call.Close
row word.Mmap = line (codes "mmap") (Small ▸ Descriptor ▸ Mapping ▸ Alone) call.Mmap
row word.Mread = line (codes "mread") (Small ▸ Offset ▸ Portion ▸ Alone) call.Mread
row word.Munmap = line (codes "munmap") (Small ▸ Alone) call.Munmap
row word.Exec = line (codes "exec") (Small ▸ Path ▸ Alone) call.Exec
row word.Endexec = line (codes "endexec") (Small ▸ Alone) call.Endexec
row word.SetAttr = line (codes "setxattr") (Path ▸ Name ▸ Bytes 0 most_set ▸ Alone)
    (λ inode name value. call.SetAttr inode name (Some value))
row word.RemoveAttr = line (codes "removexattr") (Path ▸ Name ▸ Alone)
    (λ inode name. call.SetAttr inode name None)
row word.Chmod = line (codes "chmod") (Path ▸ Mode ▸ Alone)
    (λ inode mode. call.SetMeta inode (change.Mode mode))
row word.Chown = line (codes "chown") (Path ▸ Id ▸ Id ▸ Alone)
    (λ inode uid gid. call.SetMeta inode (change.Owner uid gid))
row word.Post = line (codes "post") (Small ▸ Alone) call.Post
row word.Wait = line (codes "wait") (Small ▸ Alone) call.Wait
row word.AddRule = record { word = codes "addrule"; arguments = Rule; call = call.AddRule }
row word.Module = line (codes "module") (Path ▸ Alone) call.Module
row word.Firmware = line (codes "firmware") (Path ▸ Alone) call.Firmware

-- all words of calls
abbrev pub all_words : List CallWord
all_words =
    word.Open ∷ word.Read ∷ word.Write ∷ word.Ftruncate ∷ word.Close ∷ word.Mmap ∷ word.Mread
    ∷ word.Munmap ∷ word.Exec ∷ word.Endexec ∷ word.SetAttr ∷ word.RemoveAttr ∷ word.Chmod
    ∷ word.Chown ∷ word.Post ∷ word.Wait ∷ word.AddRule ∷ word.Module ∷ word.Firmware ∷ []

-- the kind of a call's line with this first word, if a call has it
abbrev pub call_word_of : List ℕ → Option CallWord
call_word_of text = look_up (map (λ w. ((row w).word, w)) all_words) text

-- ---- what the line of a call says

-- a row of the table, and what the arguments of its line say
pub record Spoken : Type 0 where
  pub word : CallWord
  pub said : Said (row word).arguments

-- what a line of the row says, from the values of its arguments, one after another
abbrev pub by : (w : CallWord) → OfSaid (row w).arguments Spoken
by w = each_by (row w).arguments (λ s. record { word = w; said = s })

-- a function of what the line of a call says
abbrev pub told : {X : Type 0} → (Spoken → X) → Call → X
told f (call.Open fd inode how trunc) = f (by word.Open fd inode how trunc)
told f (call.Read fd from len) = f (by word.Read fd from len)
told f (call.Write fd from bytes) = f (by word.Write fd from bytes)
told f (call.Ftruncate fd len) = f (by word.Ftruncate fd len)
told f (call.Close fd) = f (by word.Close fd)
told f (call.Mmap map fd exec) = f (by word.Mmap map fd exec)
told f (call.Mread map from len) = f (by word.Mread map from len)
told f (call.Munmap map) = f (by word.Munmap map)
told f (call.Exec run inode) = f (by word.Exec run inode)
told f (call.Endexec run) = f (by word.Endexec run)
told f (call.SetAttr inode name (Some value)) = f (by word.SetAttr inode name value)
told f (call.SetAttr inode name None) = f (by word.RemoveAttr inode name)
told f (call.SetMeta inode (change.Mode mode)) = f (by word.Chmod inode mode)
told f (call.SetMeta inode (change.Owner uid gid)) = f (by word.Chown inode uid gid)
told f (call.Post sem) = f (by word.Post sem)
told f (call.Wait sem) = f (by word.Wait sem)
told f (call.AddRule rule) = f (by word.AddRule rule)
told f (call.Module inode) = f (by word.Module inode)
told f (call.Firmware inode) = f (by word.Firmware inode)

-- what the line of a call says
abbrev pub spoken : Call → Spoken
spoken = told (λ s. s)
