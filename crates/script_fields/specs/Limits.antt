-- The limits on the parts of a script.
use Rattle.std.specs.Prelude.{ℕ, Bool, ◌||◌, not, nat_lt, List, Option, Some, None, if◌then◌else◌}
use Rattle.std.specs.Str.{bytes_eq}
use Rattle.inode_pages.specs.Content as content
use Rattle.policy_rules.specs.Limits as policy
use Rattle.xattr_store.specs.Attrs as attrs
use Rattle.xattr_store.specs.Names.{evm_name, ima_name}

-- the file systems
abbrev pub most_supers : ℕ
most_supers = 16

-- the files, the absent ones among them
abbrev pub most_files : ℕ
most_files = 256

-- the attributes of a file besides `security.ima` and `security.evm`
abbrev pub most_attrs : ℕ
most_attrs = 16

-- the names that are added to those that EVM protects
abbrev pub most_added : ℕ
most_added = 16

-- the lines `rule` and `addrule` together
abbrev pub most_rules : ℕ
most_rules = policy.most_rules

-- the tasks
abbrev pub most_tasks : ℕ
most_tasks = 64

-- the calls of all tasks together
abbrev pub most_calls : ℕ
most_calls = 32768

-- the turns of a schedule
abbrev pub most_turns : ℕ
most_turns = 1048576

-- the threads of a run
abbrev pub most_threads : ℕ
most_threads = 16

-- the total length of all values that count
abbrev pub most_bytes : ℕ
most_bytes = 33554432

-- the bytes of a content
abbrev pub most_content : ℕ
most_content = content.most_bytes

-- the bytes of an attribute's value
abbrev pub most_value : ℕ
most_value = attrs.most_value

-- the bytes of the HMAC's key
abbrev pub most_key : ℕ
most_key = 128

-- the label and the HMAC count neither among a file's attributes nor in the sum
abbrev pub is_counted : List ℕ → Bool
is_counted name = not (bytes_eq name ima_name || bytes_eq name evm_name)

-- the sum, if it is within its limit
abbrev pub within_sum : ℕ → Option ℕ
within_sum sum = if nat_lt most_bytes sum then None else Some sum
