-- The output of the command `label`: the values that a seal would write on each file, in the state
-- that the file's block gives it.
use Rattle.std.specs.Prelude.{ℕ, List, [], ◌++◌, codes, flat_map, Option, Some, None, if◌then◌else◌}
use Rattle.hex.specs.Hex.{encode_lower}
use Rattle.xattr_store.specs.Attrs.{Pair, value}
use Rattle.xattr_store.specs.Names.{evm_name, ima_name}
use Rattle.script_text.specs.Files.{sealed, setup_of}
use Rattle.script_text.specs.ScriptValue.{ScriptValue}
use Rattle.script_text.specs.declared.blocks.FileBlock.{FileBlock}

-- `PATH NAME=HEX`
abbrev pub value_line : List ℕ → List ℕ → List ℕ → List ℕ
value_line path name bytes =
    path ++ (codes " " ++ name ++ codes "=" ++ encode_lower bytes ++ codes "\n")

-- the line of a value, or nothing if there is no value
abbrev pub line_under : List ℕ → List ℕ → Option (List ℕ) → List ℕ
line_under path name None = []
line_under path name (Some bytes) = value_line path name bytes

-- the line of the HMAC, or nothing if there is no key
abbrev pub hmac_line : Option (List ℕ) → List ℕ → Option (List ℕ) → List ℕ
hmac_line None path hmac = []
hmac_line (Some key) path hmac = line_under path evm_name hmac

-- the line of the label, and then that of the HMAC
abbrev pub lines_of : Option (List ℕ) → List ℕ → List Pair → List ℕ
lines_of key path attrs =
    line_under path ima_name (value ima_name attrs) ++ hmac_line key path (value evm_name attrs)

-- the lines of a present file, as a seal would leave it; an absent file has none
abbrev pub file_lines : ScriptValue → FileBlock → List ℕ
file_lines s b =
    if b.image.present then lines_of s.key b.path (sealed (setup_of s) s.hash b).image.attrs
    else []

-- the lines of all files, in the order of the script
abbrev pub label_answer : ScriptValue → List ℕ
label_answer s = flat_map (file_lines s) s.files
