-- The fields of an entry and its template data (Documentation/security/IMA-templates.rst).
use Rattle.std.specs.Prelude.{ℕ, Bool, true, false, if◌then◌else◌, ◌-◌, ◌≤◌, List, [], ◌∷◌, ◌++◌, length, replicate, codes}
use Rattle.std.specs.List.{flat_map}
use Rattle.byteorder.specs.Endian.{little_bytes}
use Rattle.hash_algos.specs.declared.digest.Digest.{Digest}
use Rattle.hash_algos.specs.Algo.{algo_name}
use Rattle.hash_algos.specs.Digest.{HasDigestSize}
use Rattle.inode_meta.specs.declared.measurement.Template.{Template}
use Rattle.inode_meta.specs.declared.measurement.Field.{Field}
use Rattle.inode_meta.specs.declared.measurement.Field.TheVariants as field
use Rattle.inode_meta.specs.Fields.{template_fields}
use Rattle.xattr_store.specs.Attrs.{most_value}
use Rattle.ima_templates.specs.declared.entry.Entry.{Entry}

-- the field `d-ng`: the algorithm's name, a colon, a zero byte and the digest
abbrev pub d_ng : Digest → List ℕ
d_ng digest = (algo_name digest.algo ++ codes ":") ++ 0 ∷ digest.bytes

-- the field `n-ng`: the name and a zero byte
abbrev pub n_ng : List ℕ → List ℕ
n_ng name = name ++ 0 ∷ []

-- the length in bytes of the field `n`
abbrev pub n_length : ℕ
n_length = 256

-- the field `n`: the name, padded with zeros
abbrev pub n_padded : List ℕ → List ℕ
n_padded name = name ++ replicate (n_length - length name) 0

-- a field after its length, in 4 bytes, little-endian
unfoldable pub sized : List ℕ → List ℕ
sized field = little_bytes 4 (length field) ++ field

-- the content of a field, without its length
abbrev pub content : Field → Digest → List ℕ → List ℕ → List ℕ
content field.Digest digest name sig = digest.bytes
content field.Name digest name sig = n_padded name
content field.DigestNg digest name sig = d_ng digest
content field.NameNg digest name sig = n_ng name
content field.Sig digest name sig = sig
content field.Buf digest name sig = sig

-- the template data has `d` and `n` without their lengths
abbrev pub has_length : Field → Bool
has_length field.Digest = false
has_length field.Name = false
has_length field.DigestNg = true
has_length field.NameNg = true
has_length field.Sig = true
has_length field.Buf = true

-- a field as it is in the template data, with its length if it has one
abbrev pub field_data : Field → Digest → List ℕ → List ℕ → List ℕ
field_data f digest name sig =
    if has_length f then sized (content f digest name sig) else content f digest name sig

-- the template data: the concatenated fields
abbrev pub data_by : Template → Digest → List ℕ → List ℕ → List ℕ
data_by template digest name sig =
    flat_map (λ f. field_data f digest name sig) (template_fields template)

-- the template data of an entry
unfoldable pub template_data : Entry → List ℕ
template_data e = data_by e.template e.digest e.name e.sig

-- the lengths that an entry's fields can have
pub record HasLengths (digest : Digest) (name sig : List ℕ) : Type 0 where
  pub digest_size : HasDigestSize digest
  pub name_at_most : length name ≤ 1024
  pub sig_at_most : length sig ≤ most_value
