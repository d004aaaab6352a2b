-- The canonical text of a script, line by line, each line by its words.
use Rattle.std.specs.Prelude.{ℕ, ◌==◌, Bool, true, false, List, [], ◌∷◌, ◌++◌, codes, decimal, map, Option, Some, None, if◌then◌else◌}
use Rattle.std.specs.List.{flat_map}
use Rattle.call_steps.specs.declared.ending.Ending.{Ending}
use Rattle.call_steps.specs.declared.ending.Ending.TheVariants as ending
use Rattle.hash_algos.specs.Algo.{algo_name}
use Rattle.inode_events.specs.declared.image.Image.{Image}
use Rattle.inode_meta.specs.Words.{mode_word, template_word}
use Rattle.inode_meta.specs.declared.identity.Cred.{Cred}
use Rattle.inode_meta.specs.declared.identity.Meta.{Meta}
use Rattle.policy_text.specs.rules.RuleValue.{RuleValue}
use Rattle.policy_text.specs.Spelling.{rule_words}
use Rattle.policy_text.specs.rules.declared.access.Super.{Super}
use Rattle.text_forms.specs.FileSystems.{magic_text, uuid_text}
use Rattle.xattr_store.specs.Attrs.{Pair}
use Rattle.call_lines.specs.Calls.{call_line}
use Rattle.call_lines.specs.Form.{hex_text, octal}
use Rattle.call_lines.specs.Lines.{Line, lines_text}
use Rattle.script_text.specs.Forms.{path_of_block}
use Rattle.script_text.specs.ScriptValue.{ScriptValue}
use Rattle.script_text.specs.declared.blocks.FileBlock.{FileBlock}
use Rattle.script_text.specs.declared.blocks.TaskBlock.{TaskBlock}

-- ---- settings and file systems

abbrev pub key_lines : Option (List ℕ) → List Line
key_lines None = []
key_lines (Some key) = (codes "evm" ∷ hex_text key ∷ []) ∷ []

abbrev pub name_line : List ℕ → Line
name_line name = codes "evm_xattrs" ∷ name ∷ []

abbrev pub lock_lines : Bool → List Line
lock_lines true = name_line (codes ".") ∷ []
lock_lines false = []

abbrev pub setting_lines : ScriptValue → List Line
setting_lines s =
    (codes "imakern" ∷ codes "1" ∷ []) ∷ (codes "hash" ∷ algo_name s.hash ∷ [])
    ∷ (codes "template" ∷ template_word s.template ∷ [])
    ∷ (codes "boot" ∷ hex_text s.boot.bytes ∷ []) ∷ (codes "appraise" ∷ mode_word s.mode ∷ []) ∷ []

-- the word of the format, which is 1 or 2
abbrev pub format_word : ℕ → List ℕ
format_word f = if f == 2 then codes "2" else codes "1"

abbrev pub evm_lines : ScriptValue → List Line
evm_lines s =
    key_lines s.key
    ++ (map name_line s.added
    ++ (lock_lines s.locked ++ (codes "evm_format" ∷ format_word s.format ∷ []) ∷ []))

abbrev pub versions_word : Bool → List ℕ
versions_word true = codes "versions"
versions_word false = codes "noversions"

abbrev pub super_line : Super → Line
super_line s =
    codes "fs" ∷ (codes "magic=" ++ magic_text s.magic) ∷ (codes "uuid=" ++ uuid_text s.uuid)
    ∷ (codes "name=" ++ s.name) ∷ versions_word s.versions ∷ []

-- ---- files

abbrev pub kind_word : Bool → List ℕ
kind_word true = codes "file"
kind_word false = codes "absent"

abbrev pub content_words : Image → List (List ℕ)
content_words i = if i.present then (codes "content=" ++ hex_text i.content) ∷ [] else []

abbrev pub meta_words : Meta → List (List ℕ)
meta_words m =
    (codes "ino=" ++ decimal m.ino) ∷ (codes "gen=" ++ decimal m.generation)
    ∷ (codes "uid=" ++ decimal m.uid) ∷ (codes "gid=" ++ decimal m.gid)
    ∷ (codes "mode=" ++ octal m.mode) ∷ []

abbrev pub file_line : FileBlock → Line
file_line b =
    kind_word b.image.present ∷ b.path ∷ (codes "fs=" ++ decimal b.fs)
    ∷ meta_words b.image.meta ++ content_words b.image

abbrev pub attr_line : Pair → Line
attr_line a = codes "attr" ∷ a.0 ∷ hex_text a.1 ∷ []

-- the block of a file, in which the attributes that a seal set are listed with the others
abbrev pub file_lines : FileBlock → List Line
file_lines b = file_line b ∷ map attr_line b.image.attrs

abbrev pub rule_line : RuleValue → Line
rule_line r = codes "rule" ∷ rule_words r

-- ---- tasks

abbrev pub admin_words : Bool → List (List ℕ)
admin_words true = codes "admin" ∷ []
admin_words false = []

abbrev pub task_line : Cred → Line
task_line c =
    codes "task" ∷ (codes "uid=" ++ decimal c.uid) ∷ (codes "euid=" ++ decimal c.euid)
    ∷ (codes "gid=" ++ decimal c.gid) ∷ (codes "egid=" ++ decimal c.egid) ∷ admin_words c.admin

-- the block of a task, if the files have these paths
abbrev pub task_lines : List (List ℕ) → TaskBlock → List Line
task_lines paths t = task_line t.cred ∷ map (call_line paths) t.calls

abbrev pub ending_line : Ending → Line
ending_line (ending.Schedule turns) = codes "schedule" ∷ map decimal turns
ending_line ending.Rounds = codes "rounds" ∷ []
ending_line (ending.Threads n) = codes "threads" ∷ decimal n ∷ []

abbrev pub script_lines : ScriptValue → List Line
script_lines s =
    setting_lines s
    ++ (evm_lines s
    ++ (map super_line s.supers
    ++ (flat_map file_lines s.files
    ++ (map rule_line s.rules
    ++ (flat_map (task_lines (map path_of_block s.files)) s.tasks ++ ending_line s.ending ∷ [])))))

-- the sections of settings, file systems and files, which are the first of these
abbrev pub system_lines : ScriptValue → List Line
system_lines s =
    setting_lines s ++ (evm_lines s ++ (map super_line s.supers ++ flat_map file_lines s.files))

-- the others
abbrev pub work_lines : ScriptValue → List Line
work_lines s =
    map rule_line s.rules
    ++ (flat_map (task_lines (map path_of_block s.files)) s.tasks ++ ending_line s.ending ∷ [])

-- the canonical text of a script
unfoldable pub script_text : ScriptValue → List ℕ
script_text s = lines_text (script_lines s)
