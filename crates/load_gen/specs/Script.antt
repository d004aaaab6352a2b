-- The text of the generated script of a number: its lines in order, with the values that it draws.
use Rattle.std.specs.Prelude.{ℕ, zero, suc, ◌+◌, nat_lt, List, [], ◌∷◌, ◌++◌, codes, decimal, if◌then◌else◌}
use Rattle.hex.specs.Hex.{encode_lower}
use Rattle.load_gen.specs.Draws.{drawn, next}

-- a text, and the state of the generator after its draws
pub record Drawn : Type 0 where
  pub text : List ℕ
  pub state : ℕ

abbrev pub settings_text : List ℕ
settings_text =
    codes "imakern 1\nhash sha256\ntemplate ima-ng\nappraise enforce\nevm fill:32:5a\n"
    ++ codes "fs magic=0xef53 uuid=00000000-0000-0000-0000-000000000001 name=ext4 versions\n"

-- the file `/fI`, whose content is `length` bytes of value I, and its seal
abbrev pub file_text : ℕ → ℕ → List ℕ
file_text i length =
    codes "file /f" ++ decimal i ++ codes " fs=0 ino=" ++ decimal (100 + i)
    ++ codes " gen=1 uid=0 gid=0 mode=100644 content=fill:" ++ decimal length ++ codes ":"
    ++ encode_lower (i ∷ []) ++ codes "\nseal\n"

-- n files from number i on, each with one draw
unfoldable pub files : ℕ → ℕ → ℕ → Drawn
files zero i x = record { text = []; state = x }
files (suc n) i x =
    let rest = files n (i + 1) (next x) in
    record { text = file_text i (drawn 20000 (next x)) ++ rest.text; state = rest.state }

abbrev pub rules_text : List ℕ
rules_text =
    codes "rule measure func=FILE_CHECK mask=MAY_READ\nrule appraise func=FILE_CHECK fowner=0\n"

abbrev pub read_text : ℕ → List ℕ
read_text f = codes "open 0 /f" ++ decimal f ++ codes " r\nread 0 0 4096\nclose 0\n"

abbrev pub write_text : ℕ → ℕ → ℕ → ℕ → List ℕ
write_text task f from length =
    codes "open 0 /f" ++ decimal f ++ codes " w\nwrite 0 " ++ decimal from ++ codes " fill:"
    ++ decimal length ++ codes ":" ++ encode_lower (task ∷ []) ++ codes "\nclose 0\n"

-- a group of three calls on file f: a read if g, drawn below 4, is below 3, and otherwise a write
abbrev pub group_by : ℕ → ℕ → ℕ → ℕ → Drawn
group_by task f g x =
    if nat_lt g 3 then record { text = read_text f; state = x }
    else record {
      text = write_text task f (drawn 1000 (next x)) (1 + drawn 100 (next (next x)));
      state = next (next x);
    }

abbrev pub group : ℕ → ℕ → Drawn
group task x = group_by task (drawn 64 (next x)) (drawn 4 (next (next x))) (next (next x))

-- n groups of one task
unfoldable pub groups : ℕ → ℕ → ℕ → Drawn
groups zero task x = record { text = []; state = x }
groups (suc n) task x =
    let first = group task x in
    let rest = groups n task first.state in
    record { text = first.text ++ rest.text; state = rest.state }

-- n tasks from number t on, each with 64 groups
unfoldable pub tasks : ℕ → ℕ → ℕ → List ℕ
tasks zero t x = []
tasks (suc n) t x =
    codes "task uid=0 euid=0 gid=0 egid=0 admin\n" ++ (groups 64 t x).text
    ++ tasks n (t + 1) (groups 64 t x).state

abbrev pub script_text : ℕ → List ℕ
script_text number =
    settings_text ++ (files 64 0 number).text ++ rules_text ++ tasks 16 0 (files 64 0 number).state
    ++ codes "rounds\n"

-- an upper bound on the length in bytes of a generated script
abbrev pub most_text : ℕ
most_text = 80000
