-- Words that a report prints are read back.
use Rattle.std.proofs.Common.{◌≡◌, ℕ, ◌<◌, ◌^◌, true, false, not, ◌==◌, List, [], ◌∷◌, ◌++◌, Some, refl, sym, ap, ◌∙◌, subst, arith, inl, inr}
use Rattle.std.specs.Fmt.{digits}
use Rattle.std.specs.Char.{digit_value}
use Rattle.std.specs.List.{list_all}
use Rattle.std.specs.Str.{bytes_eq}
use Rattle.std.specs.Str.Parse.{AllDigits}
use Rattle.std.proofs.lemmas.Bool.{cases_Bool, eq-eqb, false≢true, le-leb, ne_eqb}
use Rattle.std.proofs.lemmas.Slice.Eq.{bytes_eq-Decides}
use Rattle.report_text.specs.Numerals.{numeral}
use Rattle.report_text.specs.Words.{who_word}
use Rattle.report_text.proofs.Numerals.{digits_of_numeral, numeral_of_word}
use Rattle.report_text.proofs.Reading.{is_number, number_is}
use Rattle.report_text.proofs.about_forms.ShortNumbers.{short_number_of-decimal, short_number_of-digits}
use Rattle.report_text.specs.model.events.labels.Verdicts.{cause_word}
use Rattle.report_text.specs.model.events.labels.declared.verdict.Cause.{Cause}
use Rattle.report_text.specs.model.events.labels.declared.verdict.Cause.TheVariants as cause
use Rattle.report_text.specs.model.events.meta.Words.{template_word}
use Rattle.report_text.specs.model.events.meta.declared.measurement.Template.{Template}
use Rattle.report_text.specs.model.events.meta.declared.measurement.Template.TheVariants as template
use Rattle.report_text.specs.model.events.meta.declared.step.Who.{Who}
use Rattle.report_text.specs.model.events.policy.ValueTexts.{func_word}
use Rattle.report_text.specs.model.events.policy.declared.rule.Func.{Func}
use Rattle.report_text.specs.model.events.policy.declared.rule.Func.TheVariants as func
use Rattle.report_words.specs.script_lines.Forms.{mode_of}
use Rattle.report_words.specs.script_lines.Line.{cut}
use Rattle.report_words.specs.Deeds.{is_func, is_mode, is_template}
use Rattle.report_words.specs.Forms.{is_pcr, number, who_of}
use Rattle.report_words.specs.Outcomes.{is_cause}

-- ---- numbers

-- a number below 2^32 is read back
pub number_back : (n : ℕ) → n < 2 ^ 32 → number (numeral n) ≡ Some n
number_back n h =
    subst (λ (w : List ℕ). number w ≡ Some n) (numeral_of_word n (omega (arith, h)))
    (short_number_of-decimal 0xffff_ffff n (omega (arith, h)) (omega (arith, h)))

-- and so is the number of a register
pub pcr_back : (n : ℕ) → n < 24 → is_pcr (numeral n) ≡ true
pcr_back n h = rw (number_back n (omega (arith, h))) (le-leb n 23 (omega (arith, h)))

mode_read : (n : ℕ) → n < 2 ^ 16 → mode_of (digits 8 false n) ≡ Some n
mode_read n h =
    short_number_of-digits 8 (omega arith) (omega arith) 0xffff n (omega (arith, h))
    (omega (arith, h))

pub mode_back : (n : ℕ) → n < 2 ^ 16 → is_mode (digits 8 false n) ≡ true
mode_back n h = rw (mode_read n h) refl

-- a number is none of the words that have another byte than a digit
pub no_number : (n : ℕ) (w : List ℕ) → is_number w ≡ false
    → bytes_eq (numeral n) w ≡ false
no_number n w other = elim (cases_Bool (bytes_eq (numeral n) w)) [
  | inl e ↦
      let same : numeral n ≡ w = (bytes_eq-Decides (numeral n) w).0 e in
      absurd (false≢true (sym other ∙ (ap is_number (sym same) ∙ number_is n)))
  | inr e ↦ e
]

-- ---- steps

digits_lack : (c : ℕ) (ds : List ℕ) → digit_value c ≡ 36 → AllDigits 10 ds
    → list_all (λ b. not (b == c)) ds ≡ true
digits_lack c [] out h = refl
digits_lack c (b ∷ ds) out h =
    let other : (b == c) ≡ false =
    ne_eqb b c (λ same. (let k : digit_value b ≡ digit_value c = ap digit_value same
    in omega (arith, h.0, k, out))) in
    rw (other, digits_lack c ds out h.1) refl

numeral_lacks_dot : (n : ℕ) → list_all (λ b. not (b == 46)) (numeral n) ≡ true
numeral_lacks_dot n = digits_lack 46 (numeral n) refl (digits_of_numeral n)

same_byte : (c : ℕ) → (c == c) ≡ true
same_byte c = eq-eqb c c refl

-- a text is cut at the separator that comes after a part without one
pub cut_back : (c : ℕ) (a b : List ℕ) → list_all (λ x. not (x == c)) a ≡ true
    → cut c (a ++ c ∷ b) ≡ Some (a, b)
cut_back c [] b h = rw (same_byte c) refl
cut_back c (x ∷ a) b h = elim (cases_Bool (x == c)) [
  | inl e ↦ let no : false ≡ true = rw e at h in absurd (false≢true no)
  | inr e ↦ let rest : list_all (λ x. not (x == c)) a ≡ true = rw e at h in
      rw (e, cut_back c a b rest) refl
]

-- the name of a step is read back
pub who_back : (w : Who) → w.task < 2 ^ 32 → w.call < 2 ^ 32 → w.step < 2 ^ 32
    → who_of (who_word w) ≡ Some w
who_back w t c s =
    rw (
      cut_back 46 (numeral w.task) (numeral w.call ++ 46 ∷ numeral w.step)
          (numeral_lacks_dot w.task),
      cut_back 46 (numeral w.call) (numeral w.step) (numeral_lacks_dot w.call),
      number_back w.task t,
      number_back w.call c,
      number_back w.step s,
    ) refl

-- ---- the words of tables

pub template_is : (t : Template) → is_template (template_word t) ≡ true
template_is template.Ima = refl
template_is template.ImaNg = refl
template_is template.ImaSig = refl
template_is template.ImaBuf = refl

pub func_is : (f : Func) → is_func (func_word f) ≡ true
func_is func.BprmCheck = refl
func_is func.MmapCheck = refl
func_is func.FileCheck = refl
func_is func.CredsCheck = refl
func_is func.ModuleCheck = refl
func_is func.FirmwareCheck = refl
func_is func.KexecKernelCheck = refl
func_is func.KexecInitramfsCheck = refl
func_is func.KexecCmdline = refl
func_is func.KeyCheck = refl
func_is func.CriticalData = refl
func_is func.SetxattrCheck = refl
func_is func.PolicyCheck = refl
func_is func.MmapCheckReqprot = refl

pub cause_is : (c : Cause) → is_cause (cause_word c) ≡ true
cause_is cause.DeniedHashAlgorithm = refl
cause_is cause.SignatureRequired = refl
cause_is cause.MissingHash = refl
cause_is cause.MissingHmac = refl
cause_is cause.InvalidHmac = refl
cause_is cause.UnsupportedSignature = refl
cause_is cause.UnknownData = refl
cause_is cause.InvalidHash = refl
