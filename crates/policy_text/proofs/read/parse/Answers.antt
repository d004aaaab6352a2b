use Rattle.std.proofs.Common.{rules, tests, ◌==◌, length, arith}
use Rattle.std.proofs.lemmas.Iterator.Consumers.{YieldsList-turn, YieldsList-end, YieldsList-from_enumerate}
use Rattle.std.proofs.lemmas.Iterator.Splits.{YieldsList-from_slice_split}
use Rattle.std.proofs.lemmas.List.{length_push}
use Rattle.std.proofs.lemmas.List.FromFn.{length-enumerate_from}
use Rattle.text_forms.specs.Lines.{lines}
use Rattle.text_forms.proofs.Steps.{numbered_item, goes_on, is_done}
use Rattle.policy_text.specs.Grammar.{fault_at, policy_of, with_line}
use Rattle.policy_text.proofs.FirstBad.{stops_at}
use Rattle.policy_text.proofs.read.parse.Goals as goal

pub loop-i-preserved : goal.loop-i-preserved
loop-i-preserved c =
    let t = YieldsList-turn
    (YieldsList-from_enumerate
    (YieldsList-from_slice_split _ (λ b. b == 10) c.args.text.now (cc) (cc) (cc)
    (λ x b q k. search (rules, tests))) (cc))
    c.loop-i.yielded _ c.loop-i.yielded_by _ _ (c.in-Some.i, c.in-Some.line) c.in-Some.is
    c.next.ensures.steps in
    let n = length c.loop-i.yielded in
    let ls = lines c.args.text.now in
    let item = numbered_item ls n c.in-Some.i c.in-Some.line.now t in
    goes_on fault_at with_line ls (policy_of c.args.text.now) n _ c.loop-i.policy c.in-Ok.longer
    c.in-Some.line.now item.1 c.in-Ok.ensures
    (length_push c.loop-i.yielded (c.in-Some.i, c.in-Some.line)) c.loop-i.invariant

pub returns-in-Err : goal.returns-in-Err
returns-in-Err c =
    let t = YieldsList-turn
    (YieldsList-from_enumerate
    (YieldsList-from_slice_split _ (λ b. b == 10) c.args.text.now (cc) (cc) (cc)
    (λ x b q k. search (rules, tests))) (cc))
    c.loop-i.yielded _ c.loop-i.yielded_by _ _ (c.in-Some.i, c.in-Some.line) c.in-Some.is
    c.next.ensures.steps in
    let n = length c.loop-i.yielded in
    let ls = lines c.args.text.now in
    let item = numbered_item ls n c.in-Some.i c.in-Some.line.now t in
    rw (c.at.ensures, item.0)
    (stops_at ls (policy_of c.args.text.now) n c.loop-i.policy c.in-Some.line.now c.in-Err.err
    item.1 c.in-Err.ensures c.loop-i.invariant)

pub returns : goal.returns
returns c =
    let t = YieldsList-end
    (YieldsList-from_enumerate
    (YieldsList-from_slice_split _ (λ b. b == 10) c.args.text.now (cc) (cc) (cc)
    (λ x b q k. search (rules, tests))) (cc))
    c.loop-i.yielded _ c.loop-i.yielded_by _ _ c.in-None.is c.next.ensures.steps in
    let ls = lines c.args.text.now in
    is_done fault_at with_line ls (policy_of c.args.text.now) (length c.loop-i.yielded)
    c.loop-i.policy (omega (arith, t.1, length-enumerate_from 0 ls)) c.loop-i.invariant
