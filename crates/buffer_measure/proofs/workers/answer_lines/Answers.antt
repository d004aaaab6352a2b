-- One more buffer has its answer.
use Rattle.std.proofs.Common.{◌+◌, ◌≡◌, true, List, ℕ, [], length, take, refl, sym, ap, subst, ◌∙◌, arith}
use Rattle.std.proofs.lemmas.Iterator.Adapters.{YieldsList-from_vec}
use Rattle.std.proofs.lemmas.Iterator.Consumers.{YieldsList-end, YieldsList-from_enumerate, YieldsList-turn}
use Rattle.std.proofs.lemmas.List.{length_push}
use Rattle.std.proofs.lemmas.List.FromFn.{length-enumerate_from}
use Rattle.std.proofs.lemmas.Result.{err_from_is_err_and}
use Rattle.report_text.specs.model.growing.Shown.{Passed, fresh}
use Rattle.script_text.specs.steps.templates.declared.entry.Entry.{Entry}
use Rattle.buffer_measure.specs.Answered.{HaveAnswers}
use Rattle.buffer_text.specs.Forms.{is_buffer}
use Rattle.buffer_text.specs.Text.{Buffer}
use Rattle.buffer_measure.specs.declared.answer.Answer.{Answer}
use Rattle.buffer_measure.proofs.Answering.{answered_none, answered_step, answered_whole, numbered}
use Rattle.buffer_measure.proofs.workers.answer_lines.Goals as goal

pub loop-k-init : goal.loop-k-init
loop-k-init g c = record {
  same = record { name = refl; number = refl };
  answered = subst (λ (p : Passed Entry). HaveAnswers c.args.hash c.args.register [] p
      c.new-answers.result) (sym c.requires.pass)
      (subst (λ (bs : List Answer). HaveAnswers c.args.hash c.args.register []
      (fresh g.N.Name.constants.name (c.args.task + 1)) bs) (sym c.new-answers.ensures)
      (answered_none c.args.hash c.args.register g.N.Name.constants.name (c.args.task + 1)));
}

pub answer_line-requires-clause-name : goal.answer_line-requires-clause-name
answer_line-requires-clause-name g c =
    λ κs out. c.loop-k.invariant.same.name ∙ ap (λ (p : Passed Entry). p.name) c.requires.pass

pub answer_line-requires-clause-line : goal.answer_line-requires-clause-line
answer_line-requires-clause-line g c =
    let t = YieldsList-turn
    (YieldsList-from_enumerate
    (YieldsList-from_vec c.args.lines.items (cc) (cc)) (cc))
    c.loop-k.yielded c.loop-k.k-iterator c.loop-k.yielded_by c.next.result c.next.new.self
    (c.in-Some.k, c.in-Some.line) c.in-Some.is c.next.ensures.steps in
    let n = length c.loop-k.yielded in
    let at = numbered c.args.lines.items n c.in-Some.k c.in-Some.line t in
    λ κs out. subst (λ (line : Buffer). is_buffer line ≡ true) (sym at.2)
    (c.requires.lines n c.in-Some.line at.1)

pub returns-in_err-answer-clause-same : goal.returns-in_err-answer-clause-same
returns-in_err-answer-clause-same g c = record {
  name = c.answer_line.ensures.same.name ∙ c.loop-k.invariant.same.name;
  number = c.answer_line.ensures.same.number ∙ c.loop-k.invariant.same.number;
}

pub returns-in_err-answer-clause-answered : goal.returns-in_err-answer-clause-answered
returns-in_err-answer-clause-answered g c =
    let p = err_from_is_err_and c.from_residual.result c.from_residual.ensures.1 in
    rw (p.1) tt

pub returns-in_err-push-clause-same : goal.returns-in_err-push-clause-same
returns-in_err-push-clause-same g c = record {
  name = c.answer_line.ensures.same.name ∙ c.loop-k.invariant.same.name;
  number = c.answer_line.ensures.same.number ∙ c.loop-k.invariant.same.number;
}

pub returns-in_err-push-clause-answered : goal.returns-in_err-push-clause-answered
returns-in_err-push-clause-answered g c =
    let p = err_from_is_err_and c.from_residual-in_err-push.result
    c.from_residual-in_err-push.ensures.1 in
    rw (p.1) tt

pub loop-k-preserved : goal.loop-k-preserved
loop-k-preserved g c =
    let t = YieldsList-turn
    (YieldsList-from_enumerate
    (YieldsList-from_vec c.args.lines.items (cc) (cc)) (cc))
    c.loop-k.yielded c.loop-k.k-iterator c.loop-k.yielded_by c.next.result c.next.new.self
    (c.in-Some.k, c.in-Some.line) c.in-Some.is c.next.ensures.steps in
    let n = length c.loop-k.yielded in
    let at = numbered c.args.lines.items n c.in-Some.k c.in-Some.line t in
    record {
      same = record {
        name = c.answer_line.ensures.same.name ∙ c.loop-k.invariant.same.name;
        number = c.answer_line.ensures.same.number ∙ c.loop-k.invariant.same.number;
      };
      answered = subst (λ (m : ℕ). HaveAnswers c.args.hash c.args.register
          (take m c.args.lines.items) c.answer_line.new.pass c.push.new.self)
          (sym (length_push c.loop-k.yielded (c.in-Some.k, c.in-Some.line)))
          (answered_step c.args.hash c.args.register c.args.lines.items n c.loop-k.pass
          c.answer_line.new.pass c.loop-k.answers c.push.new.self c.in-Some.line
          c.in_ok-answer.answer at.1 at.2 c.loop-k.invariant.answered
          c.in_ok-answer.ensures.answered c.in_ok-push.ensures);
    }

pub returns-clause-same : goal.returns-clause-same
returns-clause-same g c = c.loop-k.invariant.same

pub returns-clause-answered : goal.returns-clause-answered
returns-clause-answered g c =
    let t = YieldsList-end
    (YieldsList-from_enumerate
    (YieldsList-from_vec c.args.lines.items (cc) (cc)) (cc))
    c.loop-k.yielded c.loop-k.k-iterator c.loop-k.yielded_by c.next.result c.next.new.self
    c.in-None.is c.next.ensures.steps in
    answered_whole c.args.hash c.args.register c.args.lines.items (length c.loop-k.yielded)
    c.loop-k.pass c.loop-k.answers
    (omega (arith, t.1, length-enumerate_from 0 c.args.lines.items))
    c.loop-k.invariant.answered
