-- The fields that a template shows of a file: `d` and `n`, or `d-ng`, `n-ng` and perhaps a third.
use Rattle.std.specs.Prelude.{ℕ, nat_le, if◌then◌else◌, List, [], length}
use Rattle.hash_algos.specs.declared.digest.Digest.{Digest}
use Rattle.inode_meta.specs.declared.measurement.Template.{Template}
use Rattle.inode_meta.specs.declared.measurement.Template.TheVariants.{Ima, ImaNg, ImaSig, ImaBuf}
use Rattle.ima_templates.specs.Path.{last_component}

-- `d` is the SHA-1 digest, whatever was collected; `d-ng` is the collected digest
abbrev pub shown_digest : Template → Digest → Digest → Digest
shown_digest Ima file sha1 = sha1
shown_digest ImaNg file sha1 = file
shown_digest ImaSig file sha1 = file
shown_digest ImaBuf file sha1 = file

-- `n` is the path, or its last component if the path has more than 255 bytes; `n-ng` is the path
abbrev pub shown_name : Template → List ℕ → List ℕ
shown_name Ima path = if nat_le (length path) 255 then path else last_component path
shown_name ImaNg path = path
shown_name ImaSig path = path
shown_name ImaBuf path = path

-- `sig` is the signature, `buf` the buffer
abbrev pub shown_sig : Template → List ℕ → List ℕ
shown_sig Ima sig = []
shown_sig ImaNg sig = []
shown_sig ImaSig sig = sig
shown_sig ImaBuf sig = sig
