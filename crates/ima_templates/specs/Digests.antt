-- A bank's hash, the template digest of an entry, and the value by which the entry extends registers.
use Rattle.std.specs.Prelude.{ℕ, if◌then◌else◌, List, replicate}
use Rattle.hash_algos.specs.declared.algo.Algo.{Algo}
use Rattle.hash_algos.specs.declared.algo.Algo.TheVariants as algo
use Rattle.hash_algos.specs.declared.digest.Digest.{Digest}
use Rattle.hash_algos.specs.Algo.{algo_size}
use Rattle.hash_algos.specs.Digest.{digest_of, zero_digest}
use Rattle.hash_algos.specs.Hash.{hash}
use Rattle.inode_meta.specs.declared.measurement.Bank.{Bank}
use Rattle.inode_meta.specs.declared.measurement.Bank.TheVariants.{Sha1, Sha256}
use Rattle.ima_templates.specs.declared.entry.Entry.{Entry}
use Rattle.ima_templates.specs.Data.{template_data}

-- the hash after which a bank is named
abbrev pub bank_algo : Bank → Algo
bank_algo Sha1 = algo.Sha1
bank_algo Sha256 = algo.Sha256

-- the template digest in a bank: the bank's hash of the template data, or zeros for a violation
abbrev pub template_digest : Entry → Bank → Digest
template_digest e bank =
    if e.violation then zero_digest (bank_algo bank)
    else digest_of (bank_algo bank) (template_data e)

-- the value by which an entry extends its register in a bank: its template digest, or 0xff bytes
-- for a violation
abbrev pub extension : Entry → Bank → List ℕ
extension e bank =
    if e.violation then replicate (algo_size (bank_algo bank)) 0xff
    else hash (bank_algo bank) (template_data e)
