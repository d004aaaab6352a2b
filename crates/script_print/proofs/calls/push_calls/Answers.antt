use Rattle.std.proofs.Common.{List, ℕ, [], ◌∷◌, ◌++◌, map, sym, ap, ◌∙◌, append_assoc}
use Rattle.std.proofs.lemmas.List.{append-nil}
use Rattle.std.proofs.lemmas.Result.{err_from_is_err_and}
use Rattle.call_lines.specs.Calls.{call_line}
use Rattle.call_lines.specs.Lines.{line_text, words_text}
use Rattle.call_lines.specs.Rules.{HasReadRule}
use Rattle.script_spelling.proofs.Pieces.{all_done, all_more, text_all, text_more}
use Rattle.script_print.proofs.calls.push_calls.Goals as goal

pub loop-call-init : goal.loop-call-init
loop-call-init c = record { text = sym (append-nil c.args.out.now.items); read = tt }

pub loop-call-preserved : goal.loop-call-preserved
loop-call-preserved c =
    let words = words_text (call_line (map (λ p. p.now) c.args.paths.now) c.call-item.result) in
    record {
      text = text_more (λ x. line_text (call_line (map (λ p. p.now) c.args.paths.now) x))
          c.args.calls.now c.loop-call.call-index c.call-item.result c.args.out.now.items
          c.loop-call.out.items c.push.new.self.items c.loop-call-test.true c.call-item.is
          c.loop-call.invariant.text
          (c.in_ok-push.ensures.items
          ∙ ap (λ (l : List ℕ). l ++ 10 ∷ []) c.in_ok-push_call.ensures.text
          ∙ append_assoc c.loop-call.out.items words (10 ∷ []));
      read = all_more HasReadRule c.args.calls.now c.loop-call.call-index c.call-item.result
          c.loop-call-test.true c.call-item.is c.loop-call.invariant.read
          c.in_ok-push_call.ensures.rule;
    }

-- without an answer nothing is said of the rules
pub returns-in_err-push_call-clause-text : goal.returns-in_err-push_call-clause-text
returns-in_err-push_call-clause-text c =
    let p = err_from_is_err_and c.from_residual.result c.from_residual.ensures.1 in
    rw (p.1) tt

pub returns-in_err-push_call-clause-rules : goal.returns-in_err-push_call-clause-rules
returns-in_err-push_call-clause-rules c =
    let p = err_from_is_err_and c.from_residual.result c.from_residual.ensures.1 in
    rw (p.1) tt

pub returns-in_err-push-clause-text : goal.returns-in_err-push-clause-text
returns-in_err-push-clause-text c =
    let p = err_from_is_err_and c.from_residual-in_err-push.result
    c.from_residual-in_err-push.ensures.1 in
    rw (p.1) tt

pub returns-in_err-push-clause-rules : goal.returns-in_err-push-clause-rules
returns-in_err-push-clause-rules c =
    let p = err_from_is_err_and c.from_residual-in_err-push.result
    c.from_residual-in_err-push.ensures.1 in
    rw (p.1) tt

pub returns-clause-text : goal.returns-clause-text
returns-clause-text c =
    text_all (λ x. line_text (call_line (map (λ p. p.now) c.args.paths.now) x)) c.args.calls.now
    c.loop-call.call-index c.args.out.now.items c.loop-call.out.items c.loop-call-test.false
    c.loop-call.invariant.text

pub returns-clause-rules : goal.returns-clause-rules
returns-clause-rules c =
    all_done HasReadRule c.args.calls.now c.loop-call.call-index c.loop-call-test.false
    c.loop-call.invariant.read
