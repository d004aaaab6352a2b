-- The line of an entry in `ascii_runtime_measurements`.
use Rattle.std.specs.Prelude.{ℕ, ◌+◌, ◌/◌, ◌%◌, nat_lt, if◌then◌else◌, List, [], ◌∷◌, ◌++◌, codes}
use Rattle.std.specs.List.{flat_map}
use Rattle.hex.specs.Hex.{encode_lower}
use Rattle.hash_algos.specs.Algo.{algo_name}
use Rattle.inode_meta.specs.declared.measurement.Bank.TheVariants.{Sha1}
use Rattle.inode_meta.specs.declared.measurement.Field.{Field}
use Rattle.inode_meta.specs.declared.measurement.Field.TheVariants.{Digest, Name, DigestNg, NameNg, Sig, Buf}
use Rattle.inode_meta.specs.Fields.{template_fields}
use Rattle.inode_meta.specs.Words.{template_word}
use Rattle.ima_templates.specs.declared.entry.Entry.{Entry}
use Rattle.ima_templates.specs.Digests.{template_digest}

-- a register's number in decimal, right-aligned in a width of 2
abbrev pub pcr_text : ℕ → List ℕ
pcr_text pcr = (if nat_lt pcr 10 then 32 else 48 + pcr / 10) ∷ (48 + pcr % 10) ∷ []

-- the text of a field: digests and third fields in hexadecimal, `d-ng` after its algorithm's name
-- and a colon
abbrev pub field_text : Field → Entry → List ℕ
field_text Digest e = encode_lower e.digest.bytes
field_text Name e = e.name
field_text DigestNg e = algo_name e.digest.algo ++ codes ":" ++ encode_lower e.digest.bytes
field_text NameNg e = e.name
field_text Sig e = encode_lower e.sig
field_text Buf e = encode_lower e.sig

-- the fields of the entry's template, each after a space
abbrev pub fields_text : Entry → List ℕ
fields_text e = flat_map (λ f. codes " " ++ field_text f e) (template_fields e.template)

-- the register, the SHA-1 template digest and the template's name
abbrev pub line_head : Entry → List ℕ
line_head e =
    pcr_text e.pcr ++ codes " " ++ encode_lower (template_digest e Sha1).bytes ++ codes " "
    ++ template_word e.template

-- the whole line of an entry, with its newline
unfoldable pub ascii_line : Entry → List ℕ
ascii_line e = line_head e ++ fields_text e ++ codes "\n"
