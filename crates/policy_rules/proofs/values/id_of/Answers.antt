use Rattle.std.proofs.Common.{◌≡◌, ◌≢◌, ℕ, ◌-◌, ◌≤◌, Bool, true, false, ◌==◌, length, take, drop, slice_index_or, List, [], ◌∷◌, Option, Some, None, if◌then◌else◌, refl, ◌∙◌, sym, arith}
use Rattle.std.specs.Option.{option_map}
use Rattle.std.proofs.lemmas.Bool.{ne_eqb}
use Rattle.std.proofs.lemmas.List.{take_all}
use Rattle.policy_rules.specs.declared.rule.IdTest.{IdTest}
use Rattle.policy_rules.specs.declared.rule.IdTest.TheVariants as id
use Rattle.policy_rules.specs.Values.{id_number_of, id_of}
use Rattle.policy_rules.proofs.values.id_of.Goals as goal

abbrev signed : ℕ → Option ℕ → Option IdTest
signed c number =
    if c == 61 then option_map id.Is number
    else if c == 62 then option_map id.Above number
    else if c == 60 then option_map id.Below number
    else None

-- the sign and the number decide
by_sign : (text : List ℕ) (c : ℕ) (number : Option ℕ) → 1 ≤ length text → slice_index_or text 0 0 ≡ c
    → id_number_of (take (length text - 1) (drop 1 text)) ≡ number → signed c number ≡ id_of text
by_sign [] c number some is e = absurd (omega arith)
by_sign (d ∷ digits) c number some is e =
    let all : take (length (d ∷ digits) - 1) digits ≡ digits =
    take_all (length (d ∷ digits) - 1) digits (omega arith) in
    rw (← is, ← e, all) refl

no_test : (a b c : Bool) → ◌≡◌ {A = Option IdTest} None
    (if a then None else if b then None else if c then None else None)
no_test true b c = refl
no_test false true c = refl
no_test false false true = refl
no_test false false false = refl

other_sign : (c : ℕ) (number : Option ℕ) → c ≢ 61 → c ≢ 62 → c ≢ 60 → None ≡ signed c number
other_sign c number is above below =
    rw (ne_eqb c 61 is, ne_eqb c 62 above, ne_eqb c 60 below) refl

pub returns-in_err-number-clause-value : goal.returns-in_err-number-clause-value
returns-in_err-number-clause-value c =
    let sign = slice_index_or c.args.text.now 0 0 in
    c.from_residual.ensures ∙ no_test (sign == 61) (sign == 62) (sign == 60)
    ∙ by_sign c.args.text.now sign None c.in-len1-up.len_at_least refl
    (sym c.in_err-number.ensures)

pub returns-in-61-clause-value : goal.returns-in-61-clause-value
returns-in-61-clause-value c = by_sign c.args.text.now 61 (Some c.in_ok-number.number)
    c.in-len1-up.len_at_least c.in-61.is (sym c.in_ok-number.ensures)

pub returns-in-62-clause-value : goal.returns-in-62-clause-value
returns-in-62-clause-value c = by_sign c.args.text.now 62 (Some c.in_ok-number.number)
    c.in-len1-up.len_at_least c.in-62.is (sym c.in_ok-number.ensures)

pub returns-in-60-clause-value : goal.returns-in-60-clause-value
returns-in-60-clause-value c = by_sign c.args.text.now 60 (Some c.in_ok-number.number)
    c.in-len1-up.len_at_least c.in-60.is (sym c.in_ok-number.ensures)

pub returns-in_default-sign-clause-value : goal.returns-in_default-sign-clause-value
returns-in_default-sign-clause-value c =
    let sign = slice_index_or c.args.text.now 0 0 in
    other_sign sign (Some c.in_ok-number.number) (λ e. omega arith) (λ e. omega arith)
    (λ e. omega arith)
    ∙ by_sign c.args.text.now sign (Some c.in_ok-number.number) c.in-len1-up.len_at_least refl
    (sym c.in_ok-number.ensures)
