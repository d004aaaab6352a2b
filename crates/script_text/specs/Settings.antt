-- The settings of a script, and its file systems.
use Rattle.std.specs.Prelude.{ℕ, Bool, true, not, nat_lt, List, [], ◌∷◌, ◌++◌, length, codes, Some, Result, Ok, Err, ok_or, if◌then◌else◌}
use Rattle.std.specs.Str.{bytes_eq}
use Rattle.evm_verify.specs.Changes as evm
use Rattle.hash_algos.specs.Algo.{algo_by_name}
use Rattle.hash_algos.specs.Digest.{zero_digest}
use Rattle.hash_algos.specs.declared.algo.Algo.{Algo}
use Rattle.hash_algos.specs.declared.algo.Algo.TheVariants.{Sha1}
use Rattle.inode_meta.specs.declared.measurement.Template.{Template}
use Rattle.inode_meta.specs.declared.measurement.Template.TheVariants as template
use Rattle.policy_text.specs.rules.Values.{template_of}
use Rattle.text_forms.specs.Lines.{◌>>=◌}
use Rattle.script_words.specs.declared.fault.LineCause.{LineCause}
use Rattle.script_words.specs.declared.fault.LineCause.TheVariants as cause
use Rattle.script_words.specs.Forms.{field}
use Rattle.script_words.specs.Value.{value_of}
use Rattle.script_text.specs.Draft.{Draft}
use Rattle.script_fields.specs.Limits.{most_added, most_key, most_supers}
use Rattle.script_fields.specs.SettingFields.{digest_in, format_of, is_added_name, mode_named, one}
use Rattle.script_fields.specs.SuperFields.{super_in}

abbrev pub one_if : Bool → ℕ
one_if b = if b then 1 else 0

-- the draft after a line, or the cause for which the line is refused
abbrev pub Made : Type 0
Made = Result Draft LineCause

-- `imakern 1`
unfoldable pub with_version : List (List ℕ) → Draft → Made
with_version (w ∷ []) d = if bytes_eq w (codes "1") then Ok d else Err cause.BadField
with_version _ d = Err cause.BadField

-- the algorithm of the first entry's digest: SHA-1 under `ima`, else the default
abbrev pub boot_algo : Template → Algo → Algo
boot_algo template.Ima a = Sha1
boot_algo _ a = a

-- the first entry's digest is zeros, unless a `boot` line follows
abbrev pub hashed_by : Algo → Draft → Draft
hashed_by a d =
    record d {
      script =
          record d.script { hash = a; boot = zero_digest (boot_algo d.script.template a) };
    }

unfoldable pub with_hash : List (List ℕ) → Draft → Made
with_hash (w ∷ []) d = ok_or (algo_by_name w) cause.BadField >>= λ a. Ok (hashed_by a d)
with_hash _ d = Err cause.BadField

abbrev pub shown_by : Template → Draft → Draft
shown_by t d =
    record d {
      script =
          record d.script { template = t; boot = zero_digest (boot_algo t d.script.hash) };
    }

unfoldable pub with_template : List (List ℕ) → Draft → Made
with_template (w ∷ []) d = ok_or (template_of w) cause.BadField >>= λ t. Ok (shown_by t d)
with_template _ d = Err cause.BadField

unfoldable pub with_boot : List (List ℕ) → Draft → Made
with_boot words d =
    field (one words) λ w. digest_in (boot_algo d.script.template d.script.hash) w >>= λ g.
    Ok (record d { script = record d.script { boot = g } })

unfoldable pub with_mode : List (List ℕ) → Draft → Made
with_mode (w ∷ []) d =
    ok_or (mode_named w) cause.BadField >>= λ m. Ok
    (record d { script = record d.script { mode = m } })
with_mode _ d = Err cause.BadField

unfoldable pub with_key : List (List ℕ) → Draft → Made
with_key (w ∷ []) d = ok_or (value_of 1 most_key w) cause.BadField >>= λ k. Ok
    (record d { script = record d.script { key = Some k } })
with_key _ d = Err cause.BadField

-- ---- the names that EVM protects besides the five

abbrev pub is_protected : List ℕ → Draft → Bool
is_protected w d = evm.is_protected d.script.added w

-- `.` as the name locks the list of names
unfoldable pub locked : Draft → Made
locked d = if d.script.locked then Err cause.Locked
    else Ok (record d { script = record d.script { locked = true } })

unfoldable pub with_added : List ℕ → Draft → Made
with_added w d =
    if not (is_added_name w) then Err cause.BadField
    else if is_protected w d then Err cause.Twice
    else if not (nat_lt (length d.script.added) most_added) then Err cause.TooMany
    else if d.script.locked then Err cause.Locked
    else Ok (record d { script = record d.script { added = d.script.added ++ w ∷ [] } })

abbrev pub with_word : List ℕ → Draft → Made
with_word w d = if bytes_eq w (codes ".") then locked d else with_added w d

unfoldable pub with_name : List (List ℕ) → Draft → Made
with_name words d = field (one words) λ w. with_word w d

unfoldable pub with_format : List (List ℕ) → Draft → Made
with_format (w ∷ []) d =
    ok_or (format_of w) cause.BadField >>= λ f. Ok
    (record d { script = record d.script { format = f } })
with_format _ d = Err cause.BadField

-- ---- file systems

unfoldable pub with_super : List (List ℕ) → Draft → Made
with_super words d =
    field (super_in words) λ s.
    if nat_lt (length d.script.supers) most_supers
    then Ok (record d { script = record d.script { supers = d.script.supers ++ s ∷ [] } })
    else Err cause.TooMany
