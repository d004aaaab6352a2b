use Rattle.std.proofs.Common.{rules, tests, ◌==◌, length, arith, sym, ◌∙◌, ap}
use Rattle.std.specs.List.{slice_split}
use Rattle.std.proofs.lemmas.Iterator.Consumers.{YieldsList-turn, YieldsList-end}
use Rattle.std.proofs.lemmas.Iterator.Splits.{YieldsList-from_slice_split}
use Rattle.std.proofs.lemmas.List.{length_push}
use Rattle.std.proofs.lemmas.List.Splits.{length-slice_split}
use Rattle.text_forms.proofs.Steps.{next_item}
use Rattle.policy_rules.specs.RuleValue.{has_algos}
use Rattle.policy_rules.specs.Values.{algos_of}
use Rattle.policy_rules.proofs.AlgoNames.{one_more, no_name, holds_one, all_names}
use Rattle.policy_rules.proofs.values.algos_of.Goals as goal

pub returns-in_err-by_name-clause-value : goal.returns-in_err-by_name-clause-value
returns-in_err-by_name-clause-value c =
    let t = YieldsList-turn (YieldsList-from_slice_split _ (λ b. b == 44) c.args.text.now (cc) (cc)
    (cc) (λ x b q k. search (rules, tests)))
    c.loop-name.yielded _ c.loop-name.yielded_by _ _ c.in-Some.name c.in-Some.is
    c.next.ensures.steps in
    let n = length c.loop-name.yielded in
    let names = slice_split (λ b. b == 44) c.args.text.now in
    c.from_residual.ensures
    ∙ no_name c.loop-name.algos c.in-Some.name.now names n (algos_of c.args.text.now)
    (next_item names n c.in-Some.name.now t) (sym c.in_err-by_name.ensures)
    c.loop-name.invariant.so_far

pub loop-name-preserved : goal.loop-name-preserved
loop-name-preserved c =
    let t = YieldsList-turn (YieldsList-from_slice_split _ (λ b. b == 44) c.args.text.now (cc) (cc)
    (cc) (λ x b q k. search (rules, tests)))
    c.loop-name.yielded _ c.loop-name.yielded_by _ _ c.in-Some.name c.in-Some.is
    c.next.ensures.steps in
    let n = length c.loop-name.yielded in
    let names = slice_split (λ b. b == 44) c.args.text.now in
    record {
      so_far = rw c.add.ensures
          (one_more c.loop-name.algos c.in-Some.name.now c.in_ok-by_name.field-0 names n _
          (algos_of c.args.text.now) (next_item names n c.in-Some.name.now t)
          (sym c.in_ok-by_name.ensures) (length_push c.loop-name.yielded c.in-Some.name)
          c.loop-name.invariant.so_far);
      filled = λ _. ap has_algos c.add.ensures
          ∙ holds_one c.loop-name.algos c.in_ok-by_name.field-0;
    }

pub returns-clause-value : goal.returns-clause-value
returns-clause-value c =
    let t = YieldsList-end (YieldsList-from_slice_split _ (λ b. b == 44) c.args.text.now (cc) (cc)
    (cc) (λ x b q k. search (rules, tests)))
    c.loop-name.yielded _ c.loop-name.yielded_by _ _ c.in-None.is c.next.ensures.steps in
    all_names c.loop-name.algos (slice_split (λ b. b == 44) c.args.text.now)
    (length c.loop-name.yielded) (algos_of c.args.text.now) (omega (arith, t.1))
    c.loop-name.invariant.so_far

pub returns-clause-filled : goal.returns-clause-filled
returns-clause-filled c =
    let t = YieldsList-end (YieldsList-from_slice_split _ (λ b. b == 44) c.args.text.now (cc) (cc)
    (cc) (λ x b q k. search (rules, tests)))
    c.loop-name.yielded _ c.loop-name.yielded_by _ _ c.in-None.is c.next.ensures.steps in
    c.loop-name.invariant.filled
    (omega (arith, t.1, length-slice_split (λ b. b == 44) c.args.text.now))
