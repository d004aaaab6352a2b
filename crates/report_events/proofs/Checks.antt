-- The text of a check's deed.
use Rattle.std.proofs.lemmas.List.{append-nil}
use Rattle.std.proofs.Common.{◌≡◌, ℕ, Bool, true, false, ◌||◌, List, [], ◌∷◌, ◌++◌, codes, unwrap_or, if◌then◌else◌, refl, sym, ap, ◌∙◌, append_assoc}
use Rattle.report_events.specs.Numerals.{numeral}
use Rattle.std.specs.List.{join_with_byte}
use Rattle.inode_meta.specs.Words.{template_word}
use Rattle.inode_meta.specs.declared.measurement.Template.{Template}
use Rattle.policy_rules.specs.RuleValue.{is_any}
use Rattle.policy_rules.specs.ValueTexts.{func_word}
use Rattle.policy_rules.specs.declared.access.Action.{Action}
use Rattle.policy_rules.specs.declared.rule.Func.{Func}
use Rattle.inode_events.specs.declared.deed.Deed.TheVariants as deed
use Rattle.report_events.specs.Words.{Line, acts_words, appraise_words, deed_words, flag_words, measure_words, or_dash}
use Rattle.report_events.specs.Texts.{acts_text, appraise_text, flag_text, measure_text, rules_text}

abbrev after : Line → List ℕ
after [] = []
after (w ∷ ws) = 32 ∷ join_with_byte 32 (w ∷ ws)

tail_join : (a y u h : Bool)
    → after (appraise_words a y ++ flag_words (codes "audit") u ++ flag_words (codes "hash") h)
    ≡ appraise_text a y ++ flag_text (codes " audit") u ++ flag_text (codes " hash") h
tail_join true true true true = refl
tail_join true true true false = refl
tail_join true true false true = refl
tail_join true true false false = refl
tail_join true false true true = refl
tail_join true false true false = refl
tail_join true false false true = refl
tail_join true false false false = refl
tail_join false true true true = refl
tail_join false true true false = refl
tail_join false true false true = refl
tail_join false true false false = refl
tail_join false false true true = refl
tail_join false false true false = refl
tail_join false false false true = refl
tail_join false false false false = refl

parts : (m d t x : List ℕ) → 32 ∷ (m ++ 32 ∷ (d ++ 32 ∷ (t ++ x)))
    ≡ ((32 ∷ m ++ 32 ∷ []) ++ d ++ 32 ∷ [] ++ t) ++ x
parts m d t x = simp append_assoc

measured_join : (m d t : List ℕ) (ws : Line) → 32 ∷ join_with_byte 32 (m ∷ d ∷ t ∷ ws)
    ≡ ((32 ∷ m ++ 32 ∷ []) ++ d ++ 32 ∷ [] ++ t) ++ after ws
measured_join m d t [] = ap (λ l. 32 ∷ (m ++ 32 ∷ (d ++ 32 ∷ l))) (sym (append-nil t))
    ∙ parts m d t []
measured_join m d t (w ∷ ws) = parts m d t (32 ∷ join_with_byte 32 (w ∷ ws))

groups : (m a u h : List ℕ) → m ++ (a ++ u ++ h) ≡ m ++ a ++ u ++ h
groups m a u h = simp append_assoc

acts_join : (m a y u h : Bool) (pcr : ℕ) (t : Template)
    → 32 ∷ join_with_byte 32
    (or_dash (measure_words m pcr t ++ appraise_words a y ++ flag_words (codes "audit") u
    ++ flag_words (codes "hash") h))
    ≡ (if m || a || u || h then measure_text m pcr t ++ appraise_text a y
    ++ flag_text (codes " audit") u ++ flag_text (codes " hash") h else codes " -")
acts_join true a y u h pcr t =
    measured_join (codes "measure") (numeral pcr) (template_word t) (appraise_words a y
    ++ flag_words (codes "audit") u ++ flag_words (codes "hash") h)
    ∙ ap (λ l. measure_text true pcr t ++ l) (tail_join a y u h)
    ∙ groups (measure_text true pcr t) (appraise_text a y) (flag_text (codes " audit") u)
    (flag_text (codes " hash") h)
acts_join false true true true true pcr t = refl
acts_join false true true true false pcr t = refl
acts_join false true true false true pcr t = refl
acts_join false true true false false pcr t = refl
acts_join false true false true true pcr t = refl
acts_join false true false true false pcr t = refl
acts_join false true false false true pcr t = refl
acts_join false true false false false pcr t = refl
acts_join false false true true true pcr t = refl
acts_join false false true true false pcr t = refl
acts_join false false true false true pcr t = refl
acts_join false false true false false pcr t = refl
acts_join false false false true true pcr t = refl
acts_join false false false true false pcr t = refl
acts_join false false false false true pcr t = refl
acts_join false false false false false pcr t = refl

dash_join : (w : List ℕ) (ws : Line) → join_with_byte 32 (w ∷ or_dash ws) ≡ w ++ 32
    ∷ join_with_byte 32 (or_dash ws)
dash_join w [] = refl
dash_join w (v ∷ ws) = refl

acts_after : (w : List ℕ) (t : Template) (a : Action) → join_with_byte 32 (w ∷ acts_words t a) ≡ w
    ++ acts_text t a
acts_after w t a =
    dash_join w (measure_words a.measure a.pcr (unwrap_or a.template t)
    ++ appraise_words a.appraise (is_any a.need) ++ flag_words (codes "audit") a.audit
    ++ flag_words (codes "hash") a.hash)
    ∙ ap (λ l. w ++ l) (acts_join a.measure a.appraise (is_any a.need) a.audit a.hash a.pcr
    (unwrap_or a.template t))

regroup : (a b c d : List ℕ) → a ++ (b ++ (c ++ d)) ≡ a ++ ((b ++ c) ++ d)
regroup a b c d = simp append_assoc

pub check_text : (t : Template) (g : Bool) (file : ℕ) (f : Func) (a : Action) (n : ℕ)
    → join_with_byte 32 (deed_words t g (deed.Check file f a n)) ≡ codes "check "
    ++ (numeral file ++ 32 ∷ (func_word f ++ (rules_text g n ++ acts_text t a)))
check_text t true file f a n =
    ap (λ l. codes "check " ++ (numeral file ++ 32 ∷ (func_word f ++ (codes " rules " ++ l))))
    (acts_after (numeral n) t a)
    ∙ ap (λ l. codes "check " ++ (numeral file ++ 32 ∷ l))
    (regroup (func_word f) (codes " rules ") (numeral n) (acts_text t a))
check_text t false file f a n = ap (λ l. codes "check " ++ (numeral file ++ 32 ∷ l))
    (acts_after (func_word f) t a)

gather : (o k b d s f r a : List ℕ) → ((((o ++ (k ++ (b ++ d))) ++ s) ++ f) ++ r) ++ a
    ≡ o ++ (k ++ (b ++ (d ++ (s ++ (f ++ (r ++ a))))))
gather o k b d s f r a = simp append_assoc

pub check_pushed : (o fw : List ℕ) (t : Template) (g : Bool) (file : ℕ) (f : Func) (a : Action)
    (n : ℕ) → fw ≡ func_word f
    → ((((o ++ (codes "check" ++ 32 ∷ numeral file)) ++ codes " ") ++ fw) ++ rules_text g n)
    ++ acts_text t a ≡ o ++ join_with_byte 32 (deed_words t g (deed.Check file f a n))
check_pushed o fw t g file f a n e =
    gather o (codes "check") (codes " ") (numeral file) (codes " ") fw (rules_text g n)
    (acts_text t a)
    ∙ ap (λ w. o
    ++ (codes "check " ++ (numeral file ++ 32 ∷ (w ++ (rules_text g n ++ acts_text t a))))) e
    ∙ ap (λ l. o ++ l) (sym (check_text t g file f a n))
