-- The values of the registers after one of them is extended.
use Rattle.std.proofs.Common.{◌≡◌, ℕ, ◌<◌, ◌==◌, if◌then◌else◌, true, false, List, [], length, get_or, refl, ap, subst, sym, ◌∙◌, get_or-set_same, get_or-set_other, length-set, eqb-true}
use Rattle.std.proofs.lemmas.Bool.{eqb-false}
use Rattle.std.proofs.lemmas.List.{get_or-replicate}
use Rattle.inode_meta.specs.declared.measurement.Bank.{Bank}
use Rattle.inode_meta.specs.declared.measurement.Bank.TheVariants.{Sha1, Sha256}
use Rattle.pcr_bank.specs.declared.banks.Banks.{Banks}
use Rattle.pcr_bank.specs.Bank.{extended, zero_register}
use Rattle.pcr_bank.specs.Banks.{extend_bank, extend_banks, new_banks, register, registers}

-- each bank has its 24 registers
pub record IsWhole (banks : Banks) : Type 0 where
  pub count : (bank : Bank) → length (registers banks bank) ≡ 24

-- each bank initially has 24 registers
length-registers-new_banks : (bank : Bank) → length (registers new_banks bank) ≡ 24
length-registers-new_banks Sha1 = refl
length-registers-new_banks Sha256 = refl

-- the initial banks have all their registers
pub IsWhole-new_banks : IsWhole new_banks
IsWhole-new_banks = record { count = length-registers-new_banks }

-- the initial registers are all zeros
pub register-new_banks : (bank : Bank) (pcr : ℕ) → pcr < 24
    → register new_banks bank pcr ≡ zero_register bank
register-new_banks Sha1 pcr below = get_or-replicate 24 pcr (zero_register Sha1) [] below
register-new_banks Sha256 pcr below = get_or-replicate 24 pcr (zero_register Sha256) [] below

-- the registers of a bank after an extend
registers-extend_banks : (banks : Banks) (pcr : ℕ) (digests : Bank → List ℕ) (bank : Bank)
    → registers (extend_banks banks pcr digests) bank ≡ extend_bank banks pcr digests bank
registers-extend_banks banks pcr digests Sha1 = refl
registers-extend_banks banks pcr digests Sha256 = refl

-- an extend doesn't change the number of registers
pub IsWhole-extend_banks : (banks : Banks) (pcr : ℕ) (digests : Bank → List ℕ)
    → IsWhole banks → IsWhole (extend_banks banks pcr digests)
IsWhole-extend_banks banks pcr digests whole = record {
  count = λ bank. ap length (registers-extend_banks banks pcr digests bank)
      ∙ length-set (registers banks bank) pcr
      (extended bank (register banks bank pcr) (digests bank))
      ∙ whole.count bank;
}

-- an extend changes only the register that it is for
pub register-extend_banks : (banks : Banks) (pcr : ℕ) (digests : Bank
    → List ℕ) (bank : Bank) (q : ℕ)
    → IsWhole banks → q < 24 → register (extend_banks banks pcr digests) bank q
    ≡ (if pcr == q then extended bank (register banks bank q) (digests bank)
    else register banks bank q)
register-extend_banks banks pcr digests bank q whole below =
    ap (λ rs. get_or rs q []) (registers-extend_banks banks pcr digests bank)
    ∙ elim (pcr == q) as (λ b. (pcr == q) ≡ b → get_or (extend_bank banks pcr digests bank) q []
    ≡ (if b then extended bank (register banks bank q) (digests bank) else register banks bank q)) [
      | true ↦ λ is. at_it (eqb-true pcr q is)
      | false ↦ λ is. get_or-set_other (registers banks bank) pcr q _ []
          (λ e. eqb-false pcr q is (sym e))
    ] refl
  where
    at_it : pcr ≡ q → get_or (extend_bank banks pcr digests bank) q []
        ≡ extended bank (register banks bank q) (digests bank)
    at_it e = subst (λ p. get_or (extend_bank banks p digests bank) q []
        ≡ extended bank (register banks bank q) (digests bank)) (sym e)
        (get_or-set_same (registers banks bank) q _ []
        (subst (λ n. q < n) (sym (whole.count bank)) below))
