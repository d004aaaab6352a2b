-- The blocks of files.
use Rattle.std.specs.Prelude.{ℕ, ◌+◌, Bool, true, false, ◌&&◌, not, nat_lt, List, [], ◌∷◌, ◌++◌, length, codes, Option, Some, None, is_some, slice_get, Ok, Err, ok_or, if◌then◌else◌}
use Rattle.evm_verify.specs.Setup.{Setup}
use Rattle.evm_verify.specs.Status.{renewed}
use Rattle.hash_algos.specs.Digest.{digest_of}
use Rattle.hash_algos.specs.declared.algo.Algo.{Algo}
use Rattle.label_values.specs.Labels.{label_of}
use Rattle.policy_text.specs.rules.declared.access.Super.{Super}
use Rattle.text_forms.specs.Lines.{◌>>=◌}
use Rattle.xattr_store.specs.Attrs.{put, value}
use Rattle.xattr_store.specs.Names.{ima_name}
use Rattle.script_words.specs.declared.fault.LineCause.TheVariants as cause
use Rattle.script_words.specs.Forms.{after_key_by, field, place_among}
use Rattle.script_words.specs.Value.{value_of}
use Rattle.script_text.specs.Draft.{Draft, change_last, last_of}
use Rattle.script_fields.specs.Limits.{is_counted, most_attrs, most_bytes, most_files, most_value}
use Rattle.call_lines.specs.Places.{place_in}
use Rattle.script_text.specs.ScriptValue.{ScriptValue}
use Rattle.script_text.specs.Settings.{Made, one_if}
use Rattle.script_fields.specs.SuperFields.{name_of}
use Rattle.script_text.specs.declared.blocks.FileBlock.{FileBlock}
use Rattle.script_fields.specs.FileFields.{Front, content_of, file_in, front_in, two}

-- the file as its block begins, on file system n
abbrev pub block_of : Front → ℕ → Super → Bool → List ℕ → FileBlock
block_of f n s present content = record {
  path = f.path;
  fs = n;
  image = record {
    present = present;
    content = content;
    attrs = [];
    meta = record {
      ino = f.ino;
      generation = f.generation;
      uid = f.uid;
      gid = f.gid;
      mode = f.mode;
      place = s.uuid;
    };
    versions = s.versions;
  };
}

abbrev pub filed : FileBlock → Draft → Draft
filed b d =
    record d {
      script = record d.script { files = d.script.files ++ b ∷ [] };
      unsealed = b.image.present;
      counted = 0;
      sum = d.sum + length b.image.content;
      paths = d.paths ++ b.path ∷ [];
    }

abbrev pub with_block : FileBlock → Draft → Made
with_block b d =
    if is_some (place_in d.paths b.path) then Err cause.Twice
    else if not (nat_lt (length d.paths) most_files) then Err cause.TooMany
    else if nat_lt most_bytes (d.sum + length b.image.content) then Err cause.TooLarge
    else Ok (filed b d)

-- the draft with a file on the file system of this number, if there is one
abbrev pub on_super : Front → Bool → List ℕ → Draft → Option ℕ → Made
on_super f present content d None = Err cause.Unknown
on_super f present content d (Some n) =
    ok_or (slice_get d.script.supers n) cause.Unknown >>= λ s. with_block
    (block_of f n s present content) d

abbrev pub with_front : Front → Bool → List ℕ → Draft → Made
with_front f present content d =
    on_super f present content d (place_among (length d.script.supers) f.fs)

unfoldable pub with_file : List (List ℕ) → Draft → Made
with_file words d =
    field (file_in words) λ f. field (after_key_by content_of (codes "content=") f.1) λ content.
    with_front f.0 true content d

unfoldable pub with_absent : List (List ℕ) → Draft → Made
with_absent words d = field (front_in words) λ front. with_front front false [] d

-- ---- attributes

abbrev pub attrs_put : List ℕ → List ℕ → FileBlock → FileBlock
attrs_put name bytes b =
    record b { image = record b.image { attrs = put name bytes b.image.attrs } }

abbrev pub counted_length : List ℕ → List ℕ → ℕ
counted_length name bytes = if is_counted name then length bytes else 0

abbrev pub has_attr_in : List ℕ → Option FileBlock → Bool
has_attr_in name None = false
has_attr_in name (Some b) = is_some (value name b.image.attrs)

-- whether the last file has the attribute
abbrev pub has_attr : List ℕ → Draft → Bool
has_attr name d = has_attr_in name (last_of d.script.files)

-- the draft with an attribute of its last file set
abbrev pub attr_put : List ℕ → List ℕ → Draft → Draft
attr_put name bytes d =
    record d {
      script = record d.script { files = change_last (attrs_put name bytes) d.script.files };
      counted = d.counted + one_if (is_counted name);
      sum = d.sum + counted_length name bytes;
    }

abbrev pub with_pair : List ℕ → List ℕ → Draft → Made
with_pair name bytes d =
    if has_attr name d then Err cause.Twice
    else if is_counted name && not (nat_lt d.counted most_attrs) then Err cause.TooMany
    else if nat_lt most_bytes (d.sum + counted_length name bytes) then Err cause.TooLarge
    else Ok (attr_put name bytes d)

-- `attr NAME VALUE`, in the block of the last file
unfoldable pub with_attr : List (List ℕ) → Draft → Made
with_attr words d =
    field (two words) λ w. field (name_of w.0) λ name. field (value_of 0 most_value w.1) λ bytes.
    with_pair name bytes d

-- ---- the seal

abbrev pub setup_of : ScriptValue → Setup
setup_of s = record { key = s.key; added = s.added; format = s.format }

-- the file with the label of its content by the default algorithm, and the HMAC if there is a key
abbrev pub sealed : Setup → Algo → FileBlock → FileBlock
sealed evm a b =
    record b {
      image = record b.image {
        attrs = renewed evm (put ima_name (label_of (digest_of a b.image.content)) b.image.attrs)
            b.image.meta;
      };
    }

-- `seal`, after which the block of the file can't go on
unfoldable pub with_seal : List (List ℕ) → Draft → Made
with_seal [] d =
    Ok (record d {
      script = record d.script
          { files = change_last (sealed (setup_of d.script) d.script.hash) d.script.files };
      unsealed = false;
    })
with_seal _ d = Err cause.BadField
