-- The record of an entry in `binary_runtime_measurements`, with numbers in little-endian.
use Rattle.std.specs.Prelude.{ℕ, List, ◌++◌}
use Rattle.byteorder.specs.Endian.{little_bytes}
use Rattle.inode_meta.specs.declared.measurement.Bank.TheVariants.{Sha1}
use Rattle.inode_meta.specs.declared.measurement.Template.{Template}
use Rattle.inode_meta.specs.declared.measurement.Template.TheVariants.{Ima}
use Rattle.inode_meta.specs.Words.{template_word}
use Rattle.ima_templates.specs.declared.entry.Entry.{Entry}
use Rattle.ima_templates.specs.Data.{sized, template_data}
use Rattle.ima_templates.specs.Digests.{template_digest}

-- the part of a record that shows the fields: for `ima` the digest, and the name after its length
-- and without padding; for the others the template data after its length
abbrev pub shown_data : Template → Entry → List ℕ
shown_data Ima e = e.digest.bytes ++ sized e.name
shown_data _ e = sized (template_data e)

-- the whole record of an entry
unfoldable pub binary_record : Entry → List ℕ
binary_record e =
    little_bytes 4 e.pcr ++ (template_digest e Sha1).bytes ++ sized (template_word e.template)
    ++ shown_data e.template e
