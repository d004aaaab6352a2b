-- The entries that a boot measures: the boot aggregate, and then files.
use Rattle.std.specs.Prelude.{[], codes}
use Rattle.hash_algos.specs.declared.algo.Algo.TheVariants as algo
use Rattle.hash_algos.specs.declared.digest.Digest.{Digest}
use Rattle.hash_algos.specs.Digest.{digest_of, zero_digest}
use Rattle.inode_meta.specs.declared.measurement.Template.TheVariants.{ImaNg}
use Rattle.inode_meta.specs.Registers.{default_pcr}
use Rattle.ima_templates.specs.declared.entry.Entry.{Entry}
use Rattle.ima_templates.specs.Entries.{entry_of}
use Rattle.script_text.specs.ListGrammar.{Listed}

-- the first entry of a boot, the aggregate of what was measured before the kernel
abbrev pub boot_entry : Digest → Entry
boot_entry boot =
    entry_of default_pcr ImaNg boot (zero_digest algo.Sha1) (codes "boot_aggregate") []

-- the entry of a file, which is measured with SHA-256 into the default register
abbrev pub file_entry : Listed → Entry
file_entry f =
    entry_of default_pcr ImaNg (digest_of algo.Sha256 f.1) (digest_of algo.Sha1 f.1) f.0 []
