use Rattle.std.proofs.Common.{rules, tests, ◌==◌, length, arith, sym, ◌∙◌}
use Rattle.std.specs.List.{slice_split}
use Rattle.std.proofs.lemmas.Iterator.Consumers.{YieldsList-turn, YieldsList-end}
use Rattle.std.proofs.lemmas.Iterator.Splits.{YieldsList-from_slice_split}
use Rattle.std.proofs.lemmas.List.{length_push}
use Rattle.text_forms.specs.Words.{is_word}
use Rattle.text_forms.proofs.Paths.{all_goes_on, all_stops, all_is_done}
use Rattle.text_forms.proofs.Steps.{next_item}
use Rattle.text_forms.proofs.path.has_components.Goals as goal

pub returns-then-not-is_word : goal.returns-then-not-is_word
returns-then-not-is_word c =
    let t = YieldsList-turn (YieldsList-from_slice_split _ (λ b. b == 47) c.args.parts.now (cc) (cc)
    (cc) (λ x b q k. search (rules, tests)))
    c.loop-part.yielded _ c.loop-part.yielded_by _ _ c.in-Some.part c.in-Some.is
    c.next.ensures.steps in
    all_stops (is_word 255) (slice_split (λ c. c == 47) c.args.parts.now)
    (length c.loop-part.yielded) _ c.in-Some.part.now
    (next_item (slice_split (λ c. c == 47) c.args.parts.now) (length c.loop-part.yielded)
    c.in-Some.part.now t) (sym c.is_word.ensures ∙ c.if-not-is_word.true) c.loop-part.invariant

pub loop-part-preserved : goal.loop-part-preserved
loop-part-preserved c =
    let t = YieldsList-turn (YieldsList-from_slice_split _ (λ b. b == 47) c.args.parts.now (cc) (cc)
    (cc) (λ x b q k. search (rules, tests)))
    c.loop-part.yielded _ c.loop-part.yielded_by _ _ c.in-Some.part c.in-Some.is
    c.next.ensures.steps in
    all_goes_on (is_word 255) (slice_split (λ c. c == 47) c.args.parts.now)
    (length c.loop-part.yielded) _ _ c.in-Some.part.now
    (next_item (slice_split (λ c. c == 47) c.args.parts.now) (length c.loop-part.yielded)
    c.in-Some.part.now t) (sym c.is_word.ensures ∙ c.if-not-is_word.false)
    (length_push c.loop-part.yielded c.in-Some.part) c.loop-part.invariant

pub returns : goal.returns
returns c =
    let t = YieldsList-end (YieldsList-from_slice_split _ (λ b. b == 47) c.args.parts.now (cc) (cc)
    (cc) (λ x b q k. search (rules, tests)))
    c.loop-part.yielded _ c.loop-part.yielded_by _ _ c.in-None.is c.next.ensures.steps in
    all_is_done (is_word 255) (slice_split (λ c. c == 47) c.args.parts.now)
    (length c.loop-part.yielded) _ (omega (arith, t.1)) c.loop-part.invariant
