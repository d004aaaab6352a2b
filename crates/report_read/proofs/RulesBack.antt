-- The appended rules of a report are read.
use Rattle.std.proofs.Common.{◌≡◌, ℕ, zero, suc, ◌+◌, ◌<◌, ◌^◌, ◌==◌, Bool, true, false, List, [], ◌∷◌, ◌++◌, codes, cond, length, take, Option, Some, None, refl, sym, ap, ◌∙◌, subst, arith}
use Rattle.std.specs.List.{AllByRecursion, join_with_byte, onto_first, slice_split}
use Rattle.std.proofs.lemmas.Bool.{eq-eqb, false≢true}
use Rattle.report_text.specs.Numerals.{numeral}
use Rattle.report_text.specs.Report.{appended_lines, rule_line, rule_lines}
use Rattle.report_text.specs.Words.{Line, who_word}
use Rattle.report_text.specs.model.events.forms.Words.{words}
use Rattle.report_text.specs.model.events.meta.declared.step.Who.{Who}
use Rattle.report_text.specs.model.events.policy.RuleValue.{RuleValue}
use Rattle.report_text.specs.model.events.policy.ValueTexts.{act_word}
use Rattle.report_words.specs.script_lines.policy.Spelling.{key_words, rule_text}
use Rattle.report_text.specs.model.events.policy.declared.rule.Act.{Act}
use Rattle.report_text.specs.model.events.policy.declared.rule.Act.TheVariants as act
use Rattle.report_text.specs.model.events.policy.Key.{keys}
use Rattle.report_text.specs.model.rules.declared.cell.RuleEntry.{RuleEntry}
use Rattle.report_draft.specs.declared.draft.Stage.{Stage}
use Rattle.report_draft.specs.declared.draft.Stage.TheVariants as stage
use Rattle.report_words.specs.declared.event.Span.{Span}
use Rattle.report_draft.specs.Draft.{Draft, follows, rules_left, with_words}
use Rattle.report_lines.specs.Lines.{first_is_filled, rule_of}
use Rattle.report_read.specs.ReadBack.{IsShownRule}
use Rattle.report_read.proofs.Chains.{AllGood, blocks, chain_whole, fold_one, length_push, values, values_push}
use Rattle.report_read.proofs.Fold.{end_of, fold, fold_step, line_span, next, step}
use Rattle.report_read.proofs.ListBack.{not_none, one_less}
use Rattle.report_read.proofs.WordsBack.{number_back, who_back}

-- ---- the text of a rule

onto_filled : (c : ℕ) (parts : Line) → first_is_filled (onto_first c parts) ≡ true
onto_filled c [] = refl
onto_filled c (w ∷ ws) = refl

split_filled : (c : ℕ) (cs : List ℕ) → (c == 32) ≡ false
    → first_is_filled (words (c ∷ cs)) ≡ true
split_filled c cs h = rw h (onto_filled c (slice_split (λ b. b == 32) cs))

joined : (c : ℕ) (cs : List ℕ) (ws : Line)
    → (rest : List ℕ) × (join_with_byte 32 ((c ∷ cs) ∷ ws) ≡ c ∷ rest)
joined c cs [] = (cs, refl)
joined c cs (w ∷ ws) = (cs ++ 32 ∷ join_with_byte 32 (w ∷ ws), refl)

by_first : (c : ℕ) (cs : List ℕ) (ws : Line) → (c == 32) ≡ false
    → first_is_filled (words (join_with_byte 32 ((c ∷ cs) ∷ ws))) ≡ true
by_first c cs ws h =
    let j = joined c cs ws in
    subst (λ (text : List ℕ). first_is_filled (words text) ≡ true) (sym j.1)
    (split_filled c j.0 h)

first_of_act : (a : Act) (ws : Line)
    → first_is_filled (words (join_with_byte 32 (act_word a ∷ ws))) ≡ true
first_of_act act.Measure ws = by_first 109 (codes "easure") ws refl
first_of_act act.DontMeasure ws = by_first 100 (codes "ont_measure") ws refl
first_of_act act.Appraise ws = by_first 97 (codes "ppraise") ws refl
first_of_act act.DontAppraise ws = by_first 100 (codes "ont_appraise") ws refl
first_of_act act.Audit ws = by_first 97 (codes "udit") ws refl
first_of_act act.DontAudit ws = by_first 100 (codes "ont_audit") ws refl
first_of_act act.Hash ws = by_first 104 (codes "ash") ws refl
first_of_act act.DontHash ws = by_first 100 (codes "ont_hash") ws refl

-- the text of a rule begins with a word
rule_filled : (r : RuleValue) → first_is_filled (words (rule_text r)) ≡ true
unfolding rule_text
rule_filled r = first_of_act r.act (key_words keys r)

-- ---- the line of a rule

line_read : (place : ℕ) (w : Who) (ws : Line) → place < 2 ^ 32 → w.task < 2 ^ 32
    → w.call < 2 ^ 32 → w.step < 2 ^ 32 → first_is_filled ws ≡ true
    → rule_of (take 24 (codes "rule" ∷ numeral place ∷ who_word w ∷ ws)) ≡ Some place
line_read place w [] p t c s h = absurd (false≢true h)
line_read place w (v ∷ ws) p t c s h = rw (number_back place p, who_back w t c s, h) refl

rule_read : (place : ℕ) (r : RuleEntry) → place < 2 ^ 32 → IsShownRule r
    → rule_of (take 24 (rule_line place r)) ≡ Some place
rule_read place r p s =
    line_read place r.who (words (rule_text r.rule)) p s.0 s.1 s.2 (rule_filled r.rule)

-- ---- the section

rules_more : (n : ℕ) (last : Option ℕ) → rules_left (suc n) last ≡ stage.Rules (suc n) last
rules_more n last =
    ap (λ (b : Bool). cond b stage.Inodes (stage.Rules (suc n) last)) (not_none n)

rule_step : (n begin : ℕ) (last : Option ℕ) (d : Draft) (ws : Line) (place : ℕ)
    → rule_of (take 24 ws) ≡ Some place → follows last place ≡ true
    → step begin (record d { stage = stage.Rules (suc n) last }) ws
    ≡ Some (record d {
      stage = rules_left n (Some place);
      rules = d.rules ++ line_span begin ws ∷ [];
    })
unfolding with_words
rule_step n begin last d ws place h f =
    rw (h, f)
    (ap
    (λ (k : ℕ). Some (record d {
      stage = rules_left k (Some place);
      rules = d.rules ++ line_span begin ws ∷ [];
    }))
    (one_less n))

appended_step : (begin : ℕ) (d : Draft) (last : Option ℕ) (k : ℕ) → k < 2 ^ 32
    → step begin (record d { stage = stage.Registers last })
    (codes "appended" ∷ numeral k ∷ [])
    ≡ Some (record d { stage = rules_left k None })
unfolding with_words
appended_step begin d last k h = rw (number_back k h) refl

module _ (base : ℕ) where
  -- the place of the last of so many rules
  abbrev last_rule : ℕ → Option ℕ
  last_rule zero = None
  last_rule (suc n) = Some (base + n)

  follows_last : (n : ℕ) → follows (last_rule n) (base + n) ≡ true
  follows_last zero = refl
  follows_last (suc n) = eq-eqb (base + suc n) ((base + n) + 1) (omega arith)

  abbrev pub rule_block : ℕ → RuleEntry → List Line
  rule_block n r = rule_line (base + n) r ∷ []

  abbrev pub rule_span : ℕ → RuleEntry → ℕ → Span
  rule_span n r begin = line_span begin (rule_line (base + n) r)

  abbrev ruled : Draft → ℕ → List RuleEntry → List RuleEntry → Draft
  ruled d begin done left = record d {
    stage = rules_left (length left) (last_rule (length done));
    rules = values rule_block rule_span begin 0 done;
  }

  abbrev IsNextRule : List RuleEntry → RuleEntry → Type 0
  IsNextRule done r = (base + length done < 2 ^ 32) × IsShownRule r

  rule_each : (d : Draft) (begin : ℕ) (done : List RuleEntry) (r : RuleEntry)
      (left : List RuleEntry) → IsNextRule done r
      → fold (end_of begin (blocks rule_block 0 done)) (ruled d begin done (r ∷ left))
      (rule_block (length done) r)
      ≡ Some (ruled d begin (done ++ r ∷ []) left)
  rule_each d begin done r left good =
      let here : ℕ = end_of begin (blocks rule_block 0 done) in
      let ws : Line = rule_line (base + length done) r in
      let so_far : List Span = values rule_block rule_span begin 0 done in
      let made : Draft = record d {
        stage = rules_left (length left) (Some (base + length done));
        rules = so_far ++ line_span here ws ∷ [];
      } in
      let longer : suc (length done) ≡ length (done ++ r ∷ [])
      = let more = length_push done r in omega (arith, more) in
      fold_one here (ruled d begin done (r ∷ left)) made ws
      (subst (λ (s : Stage). step here (record d { stage = s; rules = so_far }) ws ≡ Some made)
      (sym (rules_more (length left) (last_rule (length done))))
      (rule_step (length left) here (last_rule (length done)) (record d { rules = so_far }) ws
      (base + length done) (rule_read (base + length done) r good.0 good.1)
      (follows_last (length done))))
      ∙ (ap
      (λ (xs : List Span). Some (record d {
        stage = rules_left (length left) (Some (base + length done));
        rules = xs;
      }))
      (sym (values_push rule_block rule_span begin done r))
      ∙ ap
      (λ (n : ℕ). Some (record d {
        stage = rules_left (length left) (last_rule n);
        rules = values rule_block rule_span begin 0 (done ++ r ∷ []);
      }))
      longer)

  rules_good : (rs done : List RuleEntry) → base + (length done + length rs) < 2 ^ 32
      → AllByRecursion IsShownRule rs → AllGood rule_block IsNextRule done rs
  rules_good [] done few h = tt
  rules_good (r ∷ rs) done few h =
      let more = length_push done r in (
        (omega (arith, few), h.0),
        rules_good rs (done ++ r ∷ []) (omega (arith, few, more)) h.1,
      )

  rule_rows : (rs : List RuleEntry) (n : ℕ) → blocks rule_block n rs ≡ rule_lines (base + n) rs
  rule_rows [] n = refl
  rule_rows (r ∷ rs) n =
      ap (λ (ls : List Line). rule_line (base + n) r ∷ ls)
      (rule_rows rs (n + 1) ∙ ap (λ (k : ℕ). rule_lines k rs) (omega arith))

  rules_back : (rs : List RuleEntry) (begin : ℕ) (d : Draft) → base + length rs < 2 ^ 32
      → AllByRecursion IsShownRule rs
      → fold begin (record d { stage = rules_left (length rs) None; rules = [] })
      (rule_lines base rs)
      ≡ Some (record d {
        stage = stage.Inodes;
        rules = values rule_block rule_span begin 0 rs;
      })
  rules_back rs begin d few h =
      ap (fold begin (record d { stage = rules_left (length rs) None; rules = [] }))
      (sym (rule_rows rs 0 ∙ ap (λ (k : ℕ). rule_lines k rs) (omega arith)))
      ∙ chain_whole rule_block IsNextRule begin (ruled d begin) (rule_each d begin) rs
      (rules_good rs [] (omega (arith, few)) h)

  -- the section, if there is one
  abbrev pub stage_after : Bool → Option ℕ → Stage
  stage_after true last = stage.Inodes
  stage_after false last = stage.Registers last

  abbrev pub read_rules : Bool → ℕ → List RuleEntry → List Span
  read_rules true begin rs =
      values rule_block rule_span (next begin (codes "appended" ∷ numeral (length rs) ∷ [])) 0 rs
  read_rules false begin rs = []

  pub appended_back : (g : Bool) (rs : List RuleEntry) (begin : ℕ) (d : Draft)
      (last : Option ℕ) → base + length rs < 2 ^ 32 → AllByRecursion IsShownRule rs
      → fold begin (record d { stage = stage.Registers last; rules = [] })
      (appended_lines g base rs)
      ≡ Some (record d { stage = stage_after g last; rules = read_rules g begin rs })
  appended_back true rs begin d last few h =
      fold_step begin (record d { stage = stage.Registers last; rules = [] })
      (record d { stage = rules_left (length rs) None; rules = [] })
      (codes "appended" ∷ numeral (length rs) ∷ []) (rule_lines base rs)
      (appended_step begin (record d { rules = [] }) last (length rs) (omega (arith, few)))
      ∙ rules_back rs (next begin (codes "appended" ∷ numeral (length rs) ∷ [])) d few h
  appended_back false rs begin d last few h = refl
