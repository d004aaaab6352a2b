-- The 24 registers of both banks.
use Rattle.std.specs.Prelude.{ℕ, List, [], replicate, slice_index_or, slice_set}
use Rattle.inode_meta.specs.declared.measurement.Bank.{Bank}
use Rattle.inode_meta.specs.declared.measurement.Bank.TheVariants.{Sha1, Sha256}
use Rattle.pcr_bank.specs.declared.banks.Banks.{Banks}
use Rattle.pcr_bank.specs.Bank.{extended, zero_register}

-- the registers of a bank, in the order of their numbers
abbrev pub registers : Banks → Bank → List (List ℕ)
registers banks Sha1 = banks.sha1
registers banks Sha256 = banks.sha256

-- the value of a register
abbrev pub register : Banks → Bank → ℕ → List ℕ
register banks bank pcr = slice_index_or (registers banks bank) pcr []

abbrev pub new_banks : Banks
new_banks = record {
  sha1 = replicate 24 (zero_register Sha1);
  sha256 = replicate 24 (zero_register Sha256);
}

-- the digest for each bank
abbrev pub by_bank : List ℕ → List ℕ → Bank → List ℕ
by_bank sha1 sha256 Sha1 = sha1
by_bank sha1 sha256 Sha256 = sha256

-- the registers of a bank after one of them is extended by the bank's digest
abbrev pub extend_bank : Banks → ℕ → (Bank → List ℕ) → Bank → List (List ℕ)
extend_bank banks pcr digests bank =
    slice_set (registers banks bank) pcr (extended bank (register banks bank pcr) (digests bank))

-- both banks after a register is extended
abbrev pub extend_banks : Banks → ℕ → (Bank → List ℕ) → Banks
extend_banks banks pcr digests = record {
  sha1 = extend_bank banks pcr digests Sha1;
  sha256 = extend_bank banks pcr digests Sha256;
}
