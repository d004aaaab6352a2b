-- The invariants of a script: the forms of its parts, their lengths and their numbers.
use Rattle.std.specs.Prelude.{◌≡◌, ℕ, ◌+◌, ◌^◌, ◌≤◌, ◌==◌, Bool, true, ◌&&◌, ◌||◌, not, nat_le, nat_lt, List, [], ◌∷◌, ◌++◌, length, map, Option, Some, None, is_some, slice_get}
use Rattle.std.specs.List.{AllByRecursion, list_all, list_any, sum_by}
use Rattle.std.specs.Str.{bytes_eq}
use Rattle.call_steps.specs.declared.ending.Ending.{Ending}
use Rattle.call_steps.specs.declared.ending.Ending.TheVariants as ending
use Rattle.evm_verify.specs.Input.{five_names}
use Rattle.hash_algos.specs.Algo.{algo_size}
use Rattle.hash_algos.specs.DigestValue.{DigestValue}
use Rattle.hash_algos.specs.declared.algo.Algo.{Algo}
use Rattle.call_steps.specs.events.declared.image.Image.{Image}
use Rattle.inode_meta.specs.declared.identity.Cred.{Cred}
use Rattle.inode_meta.specs.declared.identity.Meta.{Meta}
use Rattle.policy_text.specs.rules.RuleValue.{if_there, is_named_template}
use Rattle.policy_text.specs.rules.declared.access.Super.{Super}
use Rattle.text_forms.specs.Paths.{is_path}
use Rattle.text_forms.specs.Tokens.{is_filled}
use Rattle.text_forms.specs.Words.{is_word}
use Rattle.xattr_store.specs.Attrs.{IsAttrs, Pair}
pub use Rattle.call_lines.specs.Calls.{is_line_call}
pub use Rattle.call_lines.specs.Form.{are_bytes, is_byte, is_id, is_mode}
use Rattle.script_text.specs.Files.{counted_length}
use Rattle.script_fields.specs.Limits.{is_counted, most_added, most_attrs, most_bytes, most_calls, most_content, most_files, most_key, most_rules, most_supers, most_tasks, most_threads, most_turns}
use Rattle.call_lines.specs.Places.{place_in}
use Rattle.script_text.specs.ScriptValue.{ScriptValue}
use Rattle.script_text.specs.Settings.{boot_algo, one_if}
use Rattle.script_fields.specs.SettingFields.{is_added_name}
use Rattle.script_text.specs.Tasks.{appends, call_bytes}
use Rattle.script_text.specs.declared.blocks.FileBlock.{FileBlock}
use Rattle.script_text.specs.declared.blocks.TaskBlock.{TaskBlock}

-- ---- numbers

-- the number of an inode, or a magic number
abbrev pub is_ino : ℕ → Bool
is_ino n = nat_le n 0xffff_ffff_ffff_ffff

abbrev pub is_uuid : ℕ → Bool
is_uuid n = nat_lt n (2 ^ 128)

-- each word is new among those before it
abbrev pub are_apart : (List (List ℕ) → List ℕ → Bool) → List (List ℕ) → List (List ℕ) → Bool
are_apart among before [] = true
are_apart among before (w ∷ ws) = not (among before w) && are_apart among (before ++ w ∷ []) ws

abbrev pub is_among : List (List ℕ) → List ℕ → Bool
is_among names w = list_any (bytes_eq w) names

abbrev pub has_place : List (List ℕ) → List ℕ → Bool
has_place paths path = is_some (place_in paths path)

-- ---- settings and file systems

-- the digest has the algorithm and its length
pub record IsDigestOf (algo : Algo) (d : DigestValue) : Type 0 where
  pub is : d.algo ≡ algo
  pub size : length d.bytes ≡ algo_size algo
  pub bytes : are_bytes d.bytes ≡ true

abbrev pub is_key : List ℕ → Bool
is_key key = nat_le 1 (length key) && nat_le (length key) most_key && are_bytes key

abbrev pub is_format : ℕ → Bool
is_format f = (f == 1) || (f == 2)

-- the names that are added to those that EVM protects
pub record AreNames (names : List (List ℕ)) : Type 0 where
  pub forms : list_all is_added_name names ≡ true
  pub new : are_apart is_among five_names names ≡ true
  pub few : length names ≤ most_added

abbrev pub is_super : Super → Bool
is_super s = is_word 255 s.name && is_ino s.magic && is_uuid s.uuid

pub record AreSupers (supers : List Super) : Type 0 where
  pub forms : list_all is_super supers ≡ true
  pub few : length supers ≤ most_supers

-- ---- files

-- the image has the UUID and the versions of its file system
pub record IsOn (s : Super) (i : Image) : Type 0 where
  pub place : i.meta.place ≡ s.uuid
  pub versions : i.versions ≡ s.versions

abbrev pub IsOnSome : Option Super → Image → Type 0
IsOnSome None i = ⊥
IsOnSome (Some s) i = IsOn s i

abbrev pub is_meta : Meta → Bool
is_meta m = is_ino m.ino && is_id m.generation && is_id m.uid && is_id m.gid && is_mode m.mode

abbrev pub is_attr : Pair → Bool
is_attr a = is_word 255 a.0 && are_bytes a.1

-- 1 if the attribute counts towards the limit, else 0
abbrev pub attr_count : Pair → ℕ
attr_count a = one_if (is_counted a.0)

abbrev pub attr_bytes : Pair → ℕ
attr_bytes a = counted_length a.0 a.1

-- the attributes are in order, and those that count are within the limit
pub record AreAttrs (attrs : List Pair) : Type 0 where
  pub ordered : IsAttrs attrs
  pub forms : list_all is_attr attrs ≡ true
  pub few : sum_by attr_count attrs ≤ most_attrs

-- an absent file has neither content nor attributes
abbrev pub is_bare : Image → Bool
is_bare i = i.present || (not (is_filled i.content) && not (is_filled i.attrs))

pub record IsFile (supers : List Super) (b : FileBlock) : Type 0 where
  pub path : is_path b.path ≡ true
  pub on : IsOnSome (slice_get supers b.fs) b.image
  pub content : length b.image.content ≤ most_content
  pub bytes : are_bytes b.image.content ≡ true
  pub meta : is_meta b.image.meta ≡ true
  pub attrs : AreAttrs b.image.attrs
  pub bare : is_bare b.image ≡ true

abbrev pub path_of_block : FileBlock → List ℕ
path_of_block b = b.path

-- no path occurs twice, and there are not too many files
pub record AreFiles (supers : List Super) (files : List FileBlock) : Type 0 where
  pub each : AllByRecursion (IsFile supers) files
  pub apart : are_apart has_place [] (map path_of_block files) ≡ true
  pub few : length files ≤ most_files

-- ---- tasks

abbrev pub is_cred : Cred → Bool
is_cred c = is_id c.uid && is_id c.euid && is_id c.gid && is_id c.egid

abbrev pub is_task : ℕ → TaskBlock → Bool
is_task files t = is_cred t.cred && list_all (is_line_call files) t.calls

-- the number of rules that a task appends
abbrev pub appended_by : TaskBlock → ℕ
appended_by t = sum_by (λ c. one_if (appends c)) t.calls

abbrev pub calls_of : TaskBlock → ℕ
calls_of t = length t.calls

-- the tasks of a script with this many files
pub record AreTasks (files : ℕ) (tasks : List TaskBlock) : Type 0 where
  pub forms : list_all (is_task files) tasks ≡ true
  pub few : length tasks ≤ most_tasks

-- an ending of a script with this many tasks
abbrev pub is_ending : ℕ → Ending → Bool
is_ending tasks (ending.Schedule turns) = list_all (λ t. nat_lt t tasks) turns
    && nat_le (length turns) most_turns
is_ending tasks ending.Rounds = true
is_ending tasks (ending.Threads n) = nat_le 1 n && nat_le n most_threads

-- ---- the total length of all values

abbrev pub file_bytes : FileBlock → ℕ
file_bytes b = length b.image.content + sum_by attr_bytes b.image.attrs

abbrev pub task_bytes : TaskBlock → ℕ
task_bytes t = sum_by call_bytes t.calls

abbrev pub bytes_in : List FileBlock → List TaskBlock → ℕ
bytes_in files tasks = sum_by file_bytes files + sum_by task_bytes tasks

-- the invariant of a script: each part has the form of its line, and the limits hold
pub record IsScript (s : ScriptValue) : Type 0 where
  pub template : is_named_template s.template ≡ true
  pub boot : IsDigestOf (boot_algo s.template s.hash) s.boot
  pub key : if_there is_key s.key ≡ true
  pub added : AreNames s.added
  pub format : is_format s.format ≡ true
  pub supers : AreSupers s.supers
  pub files : AreFiles s.supers s.files
  pub tasks : AreTasks (length s.files) s.tasks
  -- the rules of the script and those that its tasks append have one limit
  pub rules_few : length s.rules + sum_by appended_by s.tasks ≤ most_rules
  pub calls_few : sum_by calls_of s.tasks ≤ most_calls
  pub bytes_few : bytes_in s.files s.tasks ≤ most_bytes
  pub ending : is_ending (length s.tasks) s.ending ≡ true
