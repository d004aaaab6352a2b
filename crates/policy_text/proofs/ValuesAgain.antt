-- The printed text of a value is read back as that value.
use Rattle.std.proofs.Common.{◌≡◌, ℕ, ◌^◌, ◌<◌, ◌≤◌, Bool, true, false, ◌==◌, List, Option, Some, refl, subst, inl, inr, arith}
use Rattle.std.specs.Fmt.{decimal}
use Rattle.std.specs.List.{list_all}
use Rattle.std.proofs.lemmas.Bool.{cases_Bool, false≢true, leb-true}
use Rattle.std.proofs.lemmas.Bool.Decides.{nat_tests}
use Rattle.inode_meta.specs.Words.{template_word}
use Rattle.inode_meta.specs.declared.measurement.Template.{Template}
use Rattle.inode_meta.specs.declared.measurement.Template.TheVariants as template
use Rattle.text_forms.specs.Numbers.{number_of}
use Rattle.text_forms.specs.Words.{is_visible}
use Rattle.text_forms.proofs.Visible.{number_of-digits, visible-digits}
use Rattle.policy_rules.specs.declared.rule.Act.{Act}
use Rattle.policy_rules.specs.declared.rule.Act.TheVariants as act
use Rattle.policy_rules.specs.declared.rule.Func.{Func}
use Rattle.policy_rules.specs.declared.rule.Func.TheVariants as func
use Rattle.policy_rules.specs.declared.rule.MaskTest.{MaskTest}
use Rattle.policy_rules.specs.declared.rule.IdTest.{IdTest}
use Rattle.policy_rules.specs.declared.rule.IdTest.TheVariants as id
use Rattle.policy_rules.specs.RuleValue.{is_id, is_mask_bit, is_named_template}
use Rattle.policy_rules.specs.ValueTexts.{act_word}
use Rattle.policy_rules.specs.ValueTexts.{func_word, id_text, mask_text}
use Rattle.policy_rules.specs.Values.{act_of, func_of, id_of, is_sign, mask_of, template_of}

-- the text is visible, and is read back as x
abbrev pub Again : {A : Type 0} → (List ℕ → Option A) → List ℕ → A → Type 0
Again read text x = (list_all is_visible text ≡ true) × (read text ≡ Some x)

pub act_again : (a : Act) → Again act_of (act_word a) a
act_again act.Measure = (refl, refl)
act_again act.DontMeasure = (refl, refl)
act_again act.Appraise = (refl, refl)
act_again act.DontAppraise = (refl, refl)
act_again act.Audit = (refl, refl)
act_again act.DontAudit = (refl, refl)
act_again act.Hash = (refl, refl)
act_again act.DontHash = (refl, refl)

pub func_again : (f : Func) → Again func_of (func_word f) f
func_again func.BprmCheck = (refl, refl)
func_again func.MmapCheck = (refl, refl)
func_again func.FileCheck = (refl, refl)
func_again func.CredsCheck = (refl, refl)
func_again func.ModuleCheck = (refl, refl)
func_again func.FirmwareCheck = (refl, refl)
func_again func.KexecKernelCheck = (refl, refl)
func_again func.KexecInitramfsCheck = (refl, refl)
func_again func.KexecCmdline = (refl, refl)
func_again func.KeyCheck = (refl, refl)
func_again func.CriticalData = (refl, refl)
func_again func.SetxattrCheck = (refl, refl)
func_again func.PolicyCheck = (refl, refl)
func_again func.MmapCheckReqprot = (refl, refl)

pub template_again : (t : Template) → is_named_template t ≡ true
    → Again template_of (template_word t) t
template_again template.Ima h = (refl, refl)
template_again template.ImaNg h = (refl, refl)
template_again template.ImaSig h = (refl, refl)
template_again template.ImaBuf h = absurd (false≢true h)

abbrev mask_at : ℕ → Type 0
mask_at bits = (exact : Bool) → Again mask_of (mask_text (record { exact = exact; bits = bits }))
    (record { exact = exact; bits = bits })

mask_at_1 : mask_at 1
mask_at_1 true = (refl, refl)
mask_at_1 false = (refl, refl)

mask_at_2 : mask_at 2
mask_at_2 true = (refl, refl)
mask_at_2 false = (refl, refl)

mask_at_4 : mask_at 4
mask_at_4 true = (refl, refl)
mask_at_4 false = (refl, refl)

mask_at_8 : mask_at 8
mask_at_8 true = (refl, refl)
mask_at_8 false = (refl, refl)

at_numeral : (n k : ℕ) → (n == k) ≡ true → mask_at k → mask_at n
at_numeral n k e h = let is : k ≡ n = grind (arith, nat_tests) in subst mask_at is h

mask_bits_again : (n : ℕ) → is_mask_bit n ≡ true → mask_at n
mask_bits_again n h = elim (cases_Bool (n == 1)) [
  | inl e1 ↦ at_numeral n 1 e1 mask_at_1
  | inr e1 ↦ elim (cases_Bool (n == 2)) [
    | inl e2 ↦ at_numeral n 2 e2 mask_at_2
    | inr e2 ↦ elim (cases_Bool (n == 4)) [
      | inl e4 ↦ at_numeral n 4 e4 mask_at_4
      | inr e4 ↦ elim (cases_Bool (n == 8)) [
        | inl e8 ↦ at_numeral n 8 e8 mask_at_8
        | inr e8 ↦ absurd (false≢true (rw (e1, e2, e4, e8) at h))
      ]
    ]
  ]
]

pub mask_again : (m : MaskTest) → is_mask_bit m.bits ≡ true → Again mask_of (mask_text m) m
mask_again m h = mask_bits_again m.bits h m.exact

pub number_again : (most n : ℕ) → n ≤ most → most ≤ 0xffff_ffff
    → Again (number_of 10 most) (decimal n) n
number_again most n le small =
    let fits : n < 10 ^ 64 = omega arith in (
      visible-digits 10 n (omega arith) (omega arith) fits,
      number_of-digits 10 n (omega arith) (omega arith) fits most le,
    )

-- the printed test of a user or group ID begins with its sign
pub sign_again : (t : IdTest) → is_sign (id_text t) ≡ true
sign_again (id.Is n) = refl
sign_again (id.Above n) = refl
sign_again (id.Below n) = refl

pub id_again : (t : IdTest) → is_id t ≡ true → Again id_of (id_text t) t
id_again (id.Is n) h = let again = number_again 0xffff_ffff n (leb-true _ _ h) (omega arith)
    in (again.0, rw again.1 refl)
id_again (id.Above n) h = let again = number_again 0xffff_ffff n (leb-true _ _ h) (omega arith)
    in (again.0, rw again.1 refl)
id_again (id.Below n) h = let again = number_again 0xffff_ffff n (leb-true _ _ h) (omega arith)
    in (again.0, rw again.1 refl)
