-- The deciding lines that a walk from the first line on has found, and the point from which no
-- later line matters.
use Rattle.std.proofs.Common.{◌≡◌, ℕ, zero, suc, ◌+◌, ◌&&◌, Bool, true, false, List, [], ◌∷◌, ◌++◌, length, Option, Some, None, cond, refl, sym, ap, ◌∙◌, arith}
use Rattle.std.proofs.lemmas.Bool.{and_right}
use Rattle.std.specs.List.{position_from}
use Rattle.std.specs.Option.{option_and_then, option_or}
use Rattle.std.specs.Prelude.{is_some, slice_get}
use Rattle.policy_rules.specs.ActionValue.{ActionValue}
use Rattle.policy_rules.specs.RuleValue.{RuleValue}
use Rattle.policy_rules.specs.declared.access.Access.{Access}
use Rattle.rule_match.specs.Conditions.{rule_matches}
use Rattle.rule_match.specs.Decision.{action_of, carried_out, decide_of, decides, is_of, place_of_first}
use Rattle.rule_match.specs.Deciders.{AreDeciders, after_line, carried_at, decided_with, is_complete}
use Rattle.rule_match.specs.declared.deciders.Deciders.{Deciders}
use Rattle.rule_match.specs.declared.family.Family.{Family}
use Rattle.rule_match.specs.declared.family.Family.TheVariants.{Measuring, Appraising, Auditing, Hashing}
use Rattle.rule_match.proofs.Places.{find_at_position, position-append, position-none}

or-none : {X : Type 0} (o : Option X) → option_or o None ≡ o
or-none None = refl
or-none (Some x) = refl

some-or : {X : Type 0} (o p : Option X) → is_some o ≡ true → option_or o p ≡ o
some-or None p some = absurd cc
some-or (Some x) p some = refl

module _ (a : Access) where
  -- one family's deciding line doesn't change with rules that don't match
  skipped : (f : Family) (front back : List RuleValue) (o : Option ℕ)
      → ((i : ℕ) (r : RuleValue) → slice_get back i ≡ Some r → rule_matches r a ≡ false)
      → o ≡ place_of_first f front a → o ≡ place_of_first f (front ++ back) a
  skipped f front back o none is =
      is ∙ sym (or-none (place_of_first f front a))
      ∙ ap (option_or (place_of_first f front a))
      (sym (position-none (decides f a) (0 + length front) back
      (λ i r at. and_right (is_of f r.act) (rule_matches r a) (none i r at))))
      ∙ sym (position-append (decides f a) 0 front back)

  -- rules that don't match decide no family
  pub deciders-skip : (front back : List RuleValue) (d : Deciders)
      → ((i : ℕ) (r : RuleValue) → slice_get back i ≡ Some r → rule_matches r a ≡ false)
      → AreDeciders a front d → AreDeciders a (front ++ back) d
  deciders-skip front back d none are = record {
    measuring = skipped Measuring front back d.measuring none are.measuring;
    appraising = skipped Appraising front back d.appraising none are.appraising;
    auditing = skipped Auditing front back d.auditing none are.auditing;
    hashing = skipped Hashing front back d.hashing none are.hashing;
  }

  -- one family's deciding line, once found, doesn't change with later rules
  settled : (f : Family) (front back : List RuleValue) (o : Option ℕ) → is_some o ≡ true → o
      ≡ place_of_first f front a → o ≡ place_of_first f (front ++ back) a
  settled f front back o some is =
      is ∙ sym (some-or (place_of_first f front a)
      (position_from (decides f a) (0 + length front) back) (ap is_some (sym is) ∙ some))
      ∙ sym (position-append (decides f a) 0 front back)

  -- once all families are decided, no later rule matters
  pub deciders-complete : (front back : List RuleValue) (d : Deciders) → is_complete d ≡ true
      → AreDeciders a front d → AreDeciders a (front ++ back) d
  deciders-complete front back d whole are =
      let three = and_true_left _ _ whole in
      let two = and_true_left _ _ three in
      record {
        measuring = settled Measuring front back d.measuring (and_true_left _ _ two) are.measuring;
        appraising = settled Appraising front back d.appraising (and_true_right _ _ two)
            are.appraising;
        auditing = settled Auditing front back d.auditing (and_true_right _ _ three) are.auditing;
        hashing = settled Hashing front back d.hashing (and_true_right _ _ whole) are.hashing;
      }
    where
      and_true_left : (x y : Bool) → (x && y) ≡ true → x ≡ true
      and_true_left true y is = refl
      and_true_left false y is = is

      and_true_right : (x y : Bool) → (x && y) ≡ true → y ≡ true
      and_true_right true y is = is
      and_true_right false y is = absurd cc

  -- one family's deciding line, after one more rule that matches
  passed : (f : Family) (front : List RuleValue) (r : RuleValue) (line : ℕ) (o : Option ℕ)
      → rule_matches r a ≡ true → line ≡ length front
      → o ≡ place_of_first f front a → decided_with o f r.act line
      ≡ place_of_first f (front ++ r ∷ []) a
  passed f front r line o matches end is =
      choose (is_of f r.act) (ap (λ (b : Bool). is_of f r.act && b) matches)
      ∙ sym (position-append (decides f a) 0 front (r ∷ []))
    where
      here : line ≡ 0 + length front
      here = omega (arith, end)

      choose : (b : Bool) → decides f a r ≡ (b && true)
          → cond b (option_or o (Some line)) o
          ≡ option_or (place_of_first f front a)
          (position_from (decides f a) (0 + length front) (r ∷ []))
      choose true test =
          (λ i. option_or (is i) (Some (here i)))
          ∙ ap (λ (b : Bool). option_or (place_of_first f front a)
          (cond b (Some (0 + length front)) None)) (sym test)
      choose false test =
          is ∙ sym (or-none (place_of_first f front a))
          ∙ ap (λ (b : Bool). option_or (place_of_first f front a)
          (cond b (Some (0 + length front)) None)) (sym test)

  -- the deciding lines, after one more rule
  pub deciders-next : (front : List RuleValue) (r : RuleValue) (line : ℕ) (d : Deciders) → line
      ≡ length front
      → AreDeciders a front d → AreDeciders a (front ++ r ∷ []) (after_line a line r d)
  deciders-next front r line d end are = choose (rule_matches r a) refl where
    only : (i : ℕ) (s : RuleValue) → rule_matches r a ≡ false → slice_get (r ∷ []) i ≡ Some s
        → rule_matches s a ≡ false
    only i s fails at = let same : r ≡ s = the_one i s at in ap (λ t. rule_matches t a) (sym same)
        ∙ fails
      where
        the_one : (i : ℕ) (s : RuleValue) → slice_get (r ∷ []) i ≡ Some s → r ≡ s
        the_one zero s at = cc
        the_one (suc i) s at = absurd cc

    choose : (b : Bool) → rule_matches r a ≡ b → AreDeciders a (front ++ r ∷ []) (cond b (record {
      measuring = decided_with d.measuring Measuring r.act line;
      appraising = decided_with d.appraising Appraising r.act line;
      auditing = decided_with d.auditing Auditing r.act line;
      hashing = decided_with d.hashing Hashing r.act line;
    }) d)
    choose true matches = record {
      measuring = passed Measuring front r line d.measuring matches end are.measuring;
      appraising = passed Appraising front r line d.appraising matches end are.appraising;
      auditing = passed Auditing front r line d.auditing matches end are.auditing;
      hashing = passed Hashing front r line d.hashing matches end are.hashing;
    }
    choose false fails = deciders-skip front (r ∷ []) d (λ i s at. only i s fails at) are

  -- the rule at the index of a family's deciding line is the one that this family carries out
  carried : (f : Family) (rules : List RuleValue) (o : Option ℕ) → o ≡ place_of_first f rules a
      → carried_at rules o
      ≡ carried_out (option_and_then (slice_get rules) (place_of_first f rules a))
  carried f rules o is = ap (carried_at rules) is

  pub decided_by : (rules : List RuleValue) (d : Deciders) → AreDeciders a rules d
      → action_of (carried_at rules d.measuring) (carried_at rules d.appraising)
      (carried_at rules d.auditing) (carried_at rules d.hashing) ≡ decide_of rules a
  decided_by rules d are =
      let found = λ (f : Family). find_at_position (decides f a) [] rules in
      λ i. action_of
      (carried_out ((ap (option_and_then (slice_get rules)) are.measuring ∙ found Measuring) i))
      (carried_out ((ap (option_and_then (slice_get rules)) are.appraising ∙ found Appraising) i))
      (carried_out ((ap (option_and_then (slice_get rules)) are.auditing ∙ found Auditing) i))
      (carried_out ((ap (option_and_then (slice_get rules)) are.hashing ∙ found Hashing) i))

-- the results of the four families make up one action
pub action_joined : (v : ActionValue) (m p u h : Option RuleValue) (audit hash : Bool) → v
    ≡ action_of m p None None → audit ≡ is_some u → hash ≡ is_some h
    → record {
      measure = v.measure;
      pcr = v.pcr;
      template = v.template;
      appraise = v.appraise;
      need = v.need;
      algos = v.algos;
      audit = audit;
      hash = hash;
    } ≡ action_of m p u h
action_joined v m p u h audit hash same audits hashes =
    λ i. record {
      measure = (same i).measure;
      pcr = (same i).pcr;
      template = (same i).template;
      appraise = (same i).appraise;
      need = (same i).need;
      algos = (same i).algos;
      audit = audits i;
      hash = hashes i;
    }
