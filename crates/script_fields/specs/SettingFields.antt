-- What the words of the lines of settings say.
use Rattle.std.specs.Prelude.{ℕ, Bool, ◌&&◌, ◌==◌, not, nat_le, List, [], ◌∷◌, length, codes, Option, Some, None, Result, Ok, Err, if◌then◌else◌}
use Rattle.std.specs.Str.{bytes_eq}
use Rattle.evm_verify.specs.Input.{evm_name}
use Rattle.hash_algos.specs.Algo.{algo_size}
use Rattle.hash_algos.specs.DigestValue.{DigestValue}
use Rattle.hash_algos.specs.declared.algo.Algo.{Algo}
use Rattle.inode_meta.specs.declared.appraisal.Mode.{Mode}
use Rattle.inode_meta.specs.declared.appraisal.Mode.TheVariants as mode
use Rattle.policy_rules.specs.Key.{starts}
use Rattle.text_forms.specs.Tables.{look_up}
use Rattle.text_forms.specs.Words.{is_word}
use Rattle.script_words.specs.declared.fault.LineCause.{LineCause}
use Rattle.script_words.specs.declared.fault.LineCause.TheVariants as cause
use Rattle.script_words.specs.Forms.{field}
use Rattle.script_words.specs.Value.{value_of}

-- the only word
abbrev pub one : List (List ℕ) → Option (List ℕ)
one (w ∷ []) = Some w
one _ = None

-- a digest, if the bytes are as many as the algorithm has
abbrev pub digest_sized : Algo → List ℕ → Result DigestValue LineCause
digest_sized a bytes = if length bytes == algo_size a then Ok (record { algo = a; bytes = bytes })
    else Err cause.BadField

-- a digest of as many bytes as the algorithm has, which is at most 64
abbrev pub digest_in : Algo → List ℕ → Result DigestValue LineCause
digest_in a w = field (value_of 0 64 w) λ bytes. digest_sized a bytes

-- the appraisal mode by its word
abbrev pub mode_named : List ℕ → Option Mode
mode_named word =
    look_up ((codes "enforce", mode.Enforce) ∷ (codes "log", mode.Log) ∷ (codes "fix", mode.Fix)
    ∷ (codes "off", mode.Off) ∷ []) word

-- a name of 10 to 255 bytes that begins with `security.`, except that of the HMAC itself
abbrev pub is_added_name : List ℕ → Bool
is_added_name w = is_word 255 w && nat_le 10 (length w) && starts w (codes "security.")
    && not (bytes_eq w evm_name)

-- the format of the HMAC's message
abbrev pub format_of : List ℕ → Option ℕ
format_of word = look_up ((codes "1", 1) ∷ (codes "2", 2) ∷ []) word
