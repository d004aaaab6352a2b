-- A call that a line can say is one of a script: its numbers and bytes are within their ranges.
use Rattle.std.proofs.Common.{◌≡◌, ℕ, Bool, true, ◌&&◌, ◌||◌, not, nat_le, nat_lt, List, Some, None, length, refl}
use Rattle.call_steps.specs.Forms.{is_call, is_offset, is_portion, is_small}
use Rattle.call_steps.specs.declared.call.Call.{Call}
use Rattle.call_steps.specs.declared.call.Call.TheVariants as call
use Rattle.call_steps.specs.events.Files.{is_exec, is_writer}
use Rattle.call_steps.specs.events.declared.deed.Change.TheVariants as change
use Rattle.text_forms.specs.Words.{is_word}
use Rattle.call_lines.specs.Calls.{is_line_call}
use Rattle.call_lines.specs.Form.{are_bytes, is_descriptor, is_value}
use Rattle.call_lines.specs.Table.{most_set, most_write}
use Rattle.call_lines.proofs.Holding.{both_true, left_true, right_true}

-- a test that is followed only by one that always holds, holds itself
last : (a : Bool) → (a && true) ≡ true → a ≡ true
last a h = left_true a true h

-- the bytes of a `write` are as many as may be written at once
value_portion : (v : List ℕ) → is_value 1 most_write v ≡ true → is_portion (length v) ≡ true
value_portion v h = left_true (is_portion (length v)) (are_bytes v) h

-- the value of a `setxattr` is within its limit
value_few : (v : List ℕ) → is_value 0 most_set v ≡ true → nat_le (length v) most_set ≡ true
value_few v h =
    let some = nat_le 0 (length v) in
    let few = nat_le (length v) most_set in
    right_true some few (left_true (some && few) (are_bytes v) h)

-- a call that a line can say in a script with n files is one of such a script
pub line_call_is : (n : ℕ) (c : Call) → is_line_call n c ≡ true → is_call n c ≡ true
line_call_is n (call.Open fd inode how trunc) h =
    let way = is_writer how || not trunc in
    let no = not (is_exec how) in
    let r : (nat_lt inode n && (way && no)) ≡ true = right_true (is_descriptor fd) _ h in
    both_true (nat_lt inode n) way (left_true (nat_lt inode n) (way && no) r)
    (left_true way no (right_true (nat_lt inode n) (way && no) r))
line_call_is n (call.Read fd from len) h =
    let p = is_portion len && true in
    let r : (is_offset from && p) ≡ true = right_true (is_descriptor fd) _ h in
    both_true (is_offset from) (is_portion len) (left_true (is_offset from) p r)
    (last (is_portion len) (right_true (is_offset from) p r))
line_call_is n (call.Write fd from bytes) h =
    let v = is_value 1 most_write bytes && true in
    let r : (is_offset from && v) ≡ true = right_true (is_descriptor fd) _ h in
    both_true (is_offset from) (is_portion (length bytes)) (left_true (is_offset from) v r)
    (value_portion bytes (last (is_value 1 most_write bytes) (right_true (is_offset from) v r)))
line_call_is n (call.Ftruncate fd len) h =
    last (is_offset len) (right_true (is_descriptor fd) (is_offset len && true) h)
line_call_is n (call.Close fd) h = refl
line_call_is n (call.Mmap map fd exec) h = left_true (is_small map) _ h
line_call_is n (call.Mread map from len) h =
    let p = is_portion len && true in
    let r : (is_offset from && p) ≡ true = right_true (is_small map) (is_offset from && p) h in
    both_true (is_small map && is_offset from) (is_portion len)
    (both_true (is_small map) (is_offset from) (left_true (is_small map) (is_offset from && p) h)
    (left_true (is_offset from) p r))
    (last (is_portion len) (right_true (is_offset from) p r))
line_call_is n (call.Munmap map) h = last (is_small map) h
line_call_is n (call.Exec run inode) h =
    let at = nat_lt inode n && true in
    both_true (is_small run) (nat_lt inode n) (left_true (is_small run) at h)
    (last (nat_lt inode n) (right_true (is_small run) at h))
line_call_is n (call.Endexec run) h = last (is_small run) h
line_call_is n (call.SetAttr inode name (Some value)) h =
    let v = is_value 0 most_set value && true in
    let word = is_word 255 name in
    let r : (word && v) ≡ true = right_true (nat_lt inode n) (word && v) h in
    both_true (nat_lt inode n && word) (nat_le (length value) most_set)
    (both_true (nat_lt inode n) word (left_true (nat_lt inode n) (word && v) h)
    (left_true word v r))
    (value_few value (last (is_value 0 most_set value) (right_true word v r)))
line_call_is n (call.SetAttr inode name None) h =
    let word = is_word 255 name in
    both_true (nat_lt inode n && word) true
    (both_true (nat_lt inode n) word (left_true (nat_lt inode n) (word && true) h)
    (last word (right_true (nat_lt inode n) (word && true) h))) refl
line_call_is n (call.SetMeta inode (change.Mode mode)) h = left_true (nat_lt inode n) _ h
line_call_is n (call.SetMeta inode (change.Owner uid gid)) h = left_true (nat_lt inode n) _ h
line_call_is n (call.Post sem) h = last (is_small sem) h
line_call_is n (call.Wait sem) h = last (is_small sem) h
line_call_is n (call.AddRule rule) h = refl
line_call_is n (call.Module inode) h = last (nat_lt inode n) h
line_call_is n (call.Firmware inode) h = last (nat_lt inode n) h
