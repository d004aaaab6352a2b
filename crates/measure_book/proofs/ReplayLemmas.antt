-- The registers of the banks that a list gives are the replay of the list.
use Rattle.std.proofs.Common.{◌≡◌, ℕ, ◌<◌, List, [], ◌∷◌, ◌++◌, refl, ap, ◌∙◌}
use Rattle.std.specs.List.{fold}
use Rattle.std.proofs.lemmas.List.Sums.{fold-append}
use Rattle.inode_meta.specs.declared.measurement.Bank.{Bank}
use Rattle.pcr_bank.specs.declared.banks.Banks.{Banks}
use Rattle.pcr_bank.specs.Banks.{new_banks, register}
use Rattle.pcr_bank.proofs.BanksLemmas.{IsWhole, IsWhole-extend_banks, IsWhole-new_banks, register-extend_banks, register-new_banks}
use Rattle.ima_templates.specs.declared.entry.Entry.{Entry}
use Rattle.ima_templates.specs.Digests.{extension}
use Rattle.measure_book.specs.Replay.{banks_of, extended_by, register_after, replay}

-- the banks after one more entry at the end of the list
pub banks_of-push : (list : List Entry) (e : Entry)
    → banks_of (list ++ e ∷ []) ≡ extended_by (banks_of list) e
banks_of-push list e = fold-append extended_by new_banks list (e ∷ [])

-- the value of each register after one entry
register-extended_by : (banks : Banks) (e : Entry) (bank : Bank) (pcr : ℕ) → IsWhole banks
    → pcr < 24
    → register (extended_by banks e) bank pcr ≡ register_after bank pcr (register banks bank pcr) e
register-extended_by banks e bank pcr whole below =
    register-extend_banks banks e.pcr (extension e) bank pcr whole below

-- the value of each register after the entries of a list, starting from any banks
register-fold : (list : List Entry) (banks : Banks) (bank : Bank) (pcr : ℕ) → IsWhole banks
    → pcr < 24
    → register (fold extended_by banks list) bank pcr
    ≡ fold (register_after bank pcr) (register banks bank pcr) list
register-fold [] banks bank pcr whole below = refl
register-fold (e ∷ es) banks bank pcr whole below =
    register-fold es (extended_by banks e) bank pcr
    (IsWhole-extend_banks banks e.pcr (extension e) whole) below
    ∙ ap (λ r. fold (register_after bank pcr) r es)
    (register-extended_by banks e bank pcr whole below)

-- each register of the banks is the replay of the list
pub register-banks_of : (list : List Entry) (bank : Bank) (pcr : ℕ) → pcr < 24
    → register (banks_of list) bank pcr ≡ replay list bank pcr
register-banks_of list bank pcr below =
    register-fold list new_banks bank pcr IsWhole-new_banks below
    ∙ ap (λ r. fold (register_after bank pcr) r list) (register-new_banks bank pcr below)
