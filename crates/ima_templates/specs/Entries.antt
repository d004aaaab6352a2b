-- The entries for measurements and violations.
use Rattle.std.specs.Prelude.{ℕ, true, false, List, []}
use Rattle.hash_algos.specs.declared.algo.Algo.{Algo}
use Rattle.hash_algos.specs.declared.algo.Algo.TheVariants.{Sha1}
use Rattle.hash_algos.specs.declared.digest.Digest.{Digest}
use Rattle.hash_algos.specs.Digest.{zero_digest}
use Rattle.inode_meta.specs.declared.measurement.Template.{Template}
use Rattle.inode_meta.specs.Registers.{default_pcr}
use Rattle.ima_templates.specs.declared.entry.Entry.{Entry}
use Rattle.ima_templates.specs.Shown.{shown_digest, shown_name, shown_sig}

-- the entry of a file or buffer, with the collected digest and the SHA-1 digest
abbrev pub entry_of : ℕ → Template → Digest → Digest → List ℕ → List ℕ → Entry
entry_of pcr template file sha1 path sig = record {
  pcr = pcr;
  template = template;
  digest = shown_digest template file sha1;
  name = shown_name template path;
  sig = shown_sig template sig;
  violation = false;
}

-- the violation of a file: the digest is all zeros, by the default algorithm if the template names
-- the algorithm
abbrev pub violation_of : Template → Algo → List ℕ → Entry
violation_of template default path = record {
  pcr = default_pcr;
  template = template;
  digest = shown_digest template (zero_digest default) (zero_digest Sha1);
  name = shown_name template path;
  sig = [];
  violation = true;
}
