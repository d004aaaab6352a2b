-- The entries of a run of buffers.
use Rattle.std.specs.Prelude.{ℕ, [], codes}
use Rattle.inode_meta.specs.Registers.{default_pcr}
use Rattle.inode_meta.specs.declared.measurement.Template.TheVariants.{ImaNg, ImaBuf}
use Rattle.hash_algos.specs.Digest.{digest_of, zero_digest}
use Rattle.hash_algos.specs.declared.algo.Algo.{Algo}
use Rattle.hash_algos.specs.declared.algo.Algo.TheVariants.{Sha1}
use Rattle.ima_templates.specs.Entries.{entry_of}
use Rattle.ima_templates.specs.declared.entry.Entry.{Entry}
use Rattle.buffer_text.specs.Text.{Buffer}

-- the first entry: a boot aggregate of zeros by the text's algorithm
abbrev pub boot_entry : Algo → Entry
boot_entry hash =
    entry_of default_pcr ImaNg (zero_digest hash) (zero_digest Sha1) (codes "boot_aggregate") []

-- the entry of a buffer, which shows its digest by the text's algorithm, its name and its bytes
abbrev pub entry_for : Algo → ℕ → Buffer → Entry
entry_for hash pcr line =
    entry_of pcr ImaBuf (digest_of hash line.1) (zero_digest Sha1) line.0 line.1
