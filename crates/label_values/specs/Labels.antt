-- The value of `security.ima`: how it is parsed, and how the kernel writes it. The first byte is
-- the label's type: 1 for a digest, 4 for an algorithm's number and a digest, 3 for a signature, 5
-- for a portable EVM signature, 6 for a verity signature (the kernel's `enum evm_ima_xattr_type`).
use Rattle.std.specs.Prelude.{ℕ, ◌-◌, ◌==◌, nat_lt, not, Bool, true, false, ◌&&◌, ◌||◌, List, [], ◌∷◌, length, drop, Option, Some, None, unwrap_or, slice_index, if◌then◌else◌}
use Rattle.std.specs.Str.{bytes_eq}
use Rattle.hash_algos.specs.Algo.{algo_by_id, algo_id}
use Rattle.hash_algos.specs.declared.algo.Algo.{Algo}
use Rattle.hash_algos.specs.declared.algo.Algo.TheVariants as algo
use Rattle.hash_algos.specs.declared.digest.Digest.{Digest}
use Rattle.label_values.specs.declared.label.Label.{Label}
use Rattle.label_values.specs.declared.label.Label.TheVariants as label

-- ---- reading

-- the first byte, or 0, which isn't a type, if there is none
abbrev pub type_of : List ℕ → ℕ
type_of bytes = slice_index bytes 0

-- the last four bytes are zero
abbrev pub ends_in_zeros : List ℕ → Bool
ends_in_zeros bytes = bytes_eq (drop (length bytes - 4) bytes) (0 ∷ 0 ∷ 0 ∷ 0 ∷ [])

-- the algorithm of a digest without an algorithm's number, by the length of the label. A label of
-- 21 bytes that ends in four zero bytes is an MD5 that old tools padded to the length of a SHA-1.
abbrev pub plain_algo : List ℕ → Algo → Algo
plain_algo bytes default =
    if length bytes == 17 then algo.Md5
    else if length bytes == 21 then (if ends_in_zeros bytes then algo.Md5 else algo.Sha1)
    else default

-- the algorithm whose number is at this index, or else the default. Past the end of the label the
-- number is 0, which no algorithm has.
abbrev pub numbered_algo : List ℕ → ℕ → Algo → Algo
numbered_algo bytes place default = unwrap_or (algo_by_id (slice_index bytes place)) default

-- a version 2 signature: its header of 9 bytes, and at least one more byte
abbrev pub is_signature_v2 : List ℕ → Bool
is_signature_v2 bytes = nat_lt 9 (length bytes) && slice_index bytes 1 == 2

-- the algorithm by which a file with this label is hashed
abbrev pub collect_algo : Option (List ℕ) → Algo → Algo
collect_algo None default = default
collect_algo (Some bytes) default =
    if type_of bytes == 1 then plain_algo bytes default
    else if type_of bytes == 4 then numbered_algo bytes 1 default
    else if type_of bytes == 3 && is_signature_v2 bytes then numbered_algo bytes 2 default
    else default

-- the types of signatures, which are never verified here
abbrev pub is_signature_type : ℕ → Bool
is_signature_type kind = kind == 3 || kind == 5 || kind == 6

-- the meaning of a value of `security.ima`; an absent or empty value isn't a label
abbrev pub read_label : Option (List ℕ) → Algo → Label
read_label None default = label.Missing
read_label (Some []) default = label.Missing
read_label (Some (kind ∷ rest)) default =
    if kind == 1 then label.Sum (plain_algo (kind ∷ rest) default) 1
    else if kind == 4 then label.Sum (numbered_algo (kind ∷ rest) 1 default) 2
    else if is_signature_type kind then label.Signature
    else label.Unknown

-- ---- writing

-- MD5 and SHA-1 digests are written without a number, except a SHA-1 that would be read as a padded
-- MD5
abbrev pub is_plain : Algo → List ℕ → Bool
is_plain algo.Md5 bytes = true
is_plain algo.Sha1 bytes = not (ends_in_zeros bytes)
is_plain _ bytes = false

-- the label that the kernel writes for a digest
abbrev pub label_of : Digest → List ℕ
label_of d = if is_plain d.algo d.bytes then 1 ∷ d.bytes else 4 ∷ algo_id d.algo ∷ d.bytes
