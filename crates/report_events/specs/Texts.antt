-- The words of `Words` as texts: parts of a line with the space before or after them, each of which
-- may be absent.
use Rattle.std.specs.Prelude.{ℕ, Bool, true, false, ◌||◌, List, [], ◌∷◌, ◌++◌, codes, Option, Some, None, unwrap_or, if◌then◌else◌}
use Rattle.report_events.specs.Numerals.{numeral}
use Rattle.std.specs.List.{join_with_byte}
use Rattle.ima_templates.specs.declared.entry.Placed.{Placed}
use Rattle.ima_templates.specs.declared.entry.Placed.TheVariants.{Added, Already}
use Rattle.inode_meta.specs.Words.{template_word}
use Rattle.inode_meta.specs.declared.measurement.Template.{Template}
use Rattle.label_values.specs.Verdicts.{cause_word}
use Rattle.label_values.specs.declared.verdict.Verdict.{Verdict}
use Rattle.label_values.specs.declared.verdict.Verdict.TheVariants.{Pass, Deny}
use Rattle.policy_rules.specs.RuleValue.{is_any}
use Rattle.policy_rules.specs.declared.access.Action.{Action}
use Rattle.report_events.specs.Words.{Line}

-- a line with its newline
abbrev pub line_text : Line → List ℕ
line_text ws = join_with_byte 32 ws ++ 10 ∷ []

abbrev pub placed_text : Option Placed → List ℕ
placed_text None = []
placed_text (Some (Added place)) = codes "added " ++ numeral place ++ codes " "
placed_text (Some (Already place)) = codes "already " ++ numeral place ++ codes " "

abbrev pub verdict_text : Option Verdict → List ℕ
verdict_text None = []
verdict_text (Some Pass) = codes "pass "
verdict_text (Some (Deny cause)) = codes "deny " ++ cause_word cause ++ codes " "

abbrev pub admitted_text : Bool → Bool → List ℕ
admitted_text admitted labelled =
    (if admitted then codes "admitted" else codes "refused")
    ++ (if labelled then codes " labelled" else [])

abbrev pub rules_text : Bool → ℕ → List ℕ
rules_text true n = codes " rules " ++ numeral n
rules_text false n = []

abbrev pub measure_text : Bool → ℕ → Template → List ℕ
measure_text true pcr template = codes " measure " ++ numeral pcr ++ codes " "
    ++ template_word template
measure_text false pcr template = []

abbrev pub appraise_text : Bool → Bool → List ℕ
appraise_text true any = if any then codes " appraise" else codes " appraise-sig"
appraise_text false any = []

abbrev pub flag_text : List ℕ → Bool → List ℕ
flag_text word b = if b then word else []

abbrev pub acts_text : Template → Action → List ℕ
acts_text default a =
    if a.measure || a.appraise || a.audit || a.hash
    then measure_text a.measure a.pcr (unwrap_or a.template default)
    ++ appraise_text a.appraise (is_any a.need)
    ++ flag_text (codes " audit") a.audit ++ flag_text (codes " hash") a.hash
    else codes " -"
