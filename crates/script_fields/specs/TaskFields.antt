-- What the words of the lines of tasks say, and those of the endings.
use Rattle.std.specs.Prelude.{ℕ, Bool, true, false, not, nat_lt, List, [], ◌∷◌, length, codes, Option, Some, None, Result, Ok, Err, ok_or, if◌then◌else◌}
use Rattle.std.specs.List.{list_all}
use Rattle.std.specs.Str.{bytes_eq}
use Rattle.inode_meta.specs.declared.identity.Cred.{Cred}
use Rattle.text_forms.specs.Lines.{◌>>=◌}
use Rattle.text_forms.specs.Numbers.{is_short_numeral, short_number_of}
use Rattle.script_words.specs.declared.fault.LineCause.{LineCause}
use Rattle.script_words.specs.declared.fault.LineCause.TheVariants as cause
use Rattle.script_words.specs.Forms.{after_key_by, id_of, if_any, place_among}
use Rattle.script_fields.specs.Limits.{most_threads, most_turns}

-- the credentials, if each of their words has its form
abbrev pub cred_with : Option ℕ → Option ℕ → Option ℕ → Option ℕ → Option Bool → Option Cred
cred_with (Some u) (Some e) (Some g) (Some f) (Some admin) =
    Some (record { uid = u; euid = e; gid = g; egid = f; admin = admin })
cred_with _ _ _ _ _ = None

-- the word `admin`, or none
abbrev pub admin_of : List (List ℕ) → Option Bool
admin_of [] = Some false
admin_of (a ∷ []) = if bytes_eq a (codes "admin") then Some true else None
admin_of _ = None

-- the credentials that the words say, `admin` among them if it is the fifth
abbrev pub cred_of : List ℕ → List ℕ → List ℕ → List ℕ → List (List ℕ) → Option Cred
cred_of u e g f more =
    cred_with (after_key_by id_of (codes "uid=") u) (after_key_by id_of (codes "euid=") e)
    (after_key_by id_of (codes "gid=") g)
    (after_key_by id_of (codes "egid=") f) (admin_of more)

-- `task uid=NUM euid=NUM gid=NUM egid=NUM`, optionally followed by `admin`
abbrev pub cred_in : List (List ℕ) → Option Cred
cred_in (u ∷ e ∷ g ∷ f ∷ more) = cred_of u e g f more
cred_in _ = None

-- ---- endings

-- the number of an existing task
abbrev pub turn_of : ℕ → List ℕ → Result ℕ LineCause
turn_of tasks w = ok_or (place_among tasks w) cause.Unknown

-- the turns that the words say, in order
abbrev pub turns_from : ℕ → List (List ℕ) → Result (List ℕ) LineCause
turns_from tasks [] = Ok []
turns_from tasks (w ∷ ws) = turn_of tasks w >>= λ t. turns_from tasks ws >>= λ ts. Ok (t ∷ ts)

-- the turns, if they are within the limit
abbrev pub few_turns : List ℕ → Result (List ℕ) LineCause
few_turns ts = if nat_lt most_turns (length ts) then Err cause.TooMany else Ok ts

-- the turns of a schedule: a bad form comes before a missing task, and that before too many
abbrev pub turns_of : ℕ → List (List ℕ) → Result (List ℕ) LineCause
turns_of tasks words =
    if not (list_all (is_short_numeral 10) words) then Err cause.BadField
    else turns_from tasks words >>= few_turns

-- the number of threads, 1 to 16
abbrev pub threads_of : List ℕ → Option ℕ
threads_of text = if_any (short_number_of 10 most_threads text)
