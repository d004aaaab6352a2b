-- The registers as a function of the list of entries.
use Rattle.std.specs.Prelude.{ℕ, ◌==◌, if◌then◌else◌, List}
use Rattle.std.specs.List.{fold}
use Rattle.inode_meta.specs.declared.measurement.Bank.{Bank}
use Rattle.pcr_bank.specs.declared.banks.Banks.{Banks}
use Rattle.pcr_bank.specs.Bank.{extended, zero_register}
use Rattle.pcr_bank.specs.Banks.{extend_banks, new_banks}
use Rattle.ima_templates.specs.declared.entry.Entry.{Entry}
use Rattle.ima_templates.specs.Digests.{extension}

-- a register after the entry, which extends only its own register
abbrev pub register_after : Bank → ℕ → List ℕ → Entry → List ℕ
register_after bank pcr old e = if e.pcr == pcr then extended bank old (extension e bank) else old

-- the value of a register after the entries of a list, in order
abbrev pub replay : List Entry → Bank → ℕ → List ℕ
replay list bank pcr = fold (register_after bank pcr) (zero_register bank) list

-- the banks after one more entry
abbrev pub extended_by : Banks → Entry → Banks
extended_by banks e = extend_banks banks e.pcr (extension e)

-- the banks after the entries of a list, in order
abbrev pub banks_of : List Entry → Banks
banks_of list = fold extended_by new_banks list
