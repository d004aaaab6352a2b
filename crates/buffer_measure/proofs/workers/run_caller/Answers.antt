-- The buffers are those of the caller, which have their form, and so are the answers.
use Rattle.std.proofs.Common.{◌≡◌, ◌∙◌, ℕ, ◌<◌, ◌^◌, true, List, length, Option, Some, Result, Ok, Err, ap, sym, subst}
use Rattle.std.specs.Prelude.{All, IfOk, IfSome, slice_get}
use Rattle.std.specs.Result.{result_ok}
use Rattle.std.proofs.lemmas.Option.{same_Some}
use Rattle.report_text.specs.model.growing.Shown.{Passed}
use Rattle.script_text.specs.steps.hashes.declared.algo.Algo.{Algo}
use Rattle.script_text.specs.steps.policy.RuleValue.{RuleValue}
use Rattle.script_text.specs.steps.templates.declared.entry.Entry.{Entry}
use Rattle.buffer_text.specs.Forms.{is_buffer}
use Rattle.buffer_measure.specs.Answered.{HaveAnswers}
use Rattle.buffer_entries.specs.Wanted.{wanted}
use Rattle.buffer_measure.specs.Workers.{Constants, caller_of}
use Rattle.buffer_measure.specs.declared.answer.Answer.{Answer}
use Rattle.buffer_text.specs.Text.{Buffer, CallerValue}
use Rattle.buffer_measure.proofs.Callers.{lines_few, lines_formed}
use Rattle.buffer_measure.proofs.workers.run_caller.Goals as goal

pub answer_lines-answers-requires-clause-few : goal.answer_lines-answers-requires-clause-few
answer_lines-answers-requires-clause-few g c κs within =
    let same : c.replace-lines.result.items ≡ c.args.worker.now.lines.items = cc in
    subst (λ (ls : List Buffer). length ls < 2 ^ 32) (sym same)
    (lines_few g.N.Name.constants.text c.args.number (caller_of c.args.worker.now)
    c.requires.shared.kept c.requires.ready.caller)

pub answer_lines-answers-requires-clause-lines : goal.answer_lines-answers-requires-clause-lines
answer_lines-answers-requires-clause-lines g c κs within =
    let same : c.replace-lines.result.items ≡ c.args.worker.now.lines.items = cc in
    subst (λ (ls : List Buffer). All (λ line. is_buffer line ≡ true) ls) (sym same)
    (lines_formed g.N.Name.constants.text c.args.number (caller_of c.args.worker.now)
    c.requires.shared.kept c.requires.ready.caller)

-- the caller of this number has its answers, unless memory ran out
caller_answered : {E : Type 0} (k : Constants) (i : ℕ) (w : CallerValue) (hash : Algo)
    (rules : List RuleValue) (register : Option ℕ) (lines : List Buffer) (pass : Passed Entry)
    (r : Result (List Answer) E) (o : Option (List Answer)) → hash ≡ k.text.hash
    → rules ≡ k.text.rules → register ≡ wanted rules w.cred → lines ≡ w.lines
    → slice_get k.text.callers i ≡ Some w → IfOk r (HaveAnswers hash register lines pass)
    → o ≡ result_ok r → (c : CallerValue) → slice_get k.text.callers i ≡ Some c
    → IfSome o (HaveAnswers k.text.hash (wanted k.text.rules c.cred) c.lines pass)
caller_answered {E} k i w hash rules register lines pass r o algo are pcr own at given is c it =
    subst (λ (x : Option (List Answer)).
    IfSome x (HaveAnswers k.text.hash (wanted k.text.rules c.cred) c.lines pass)) (sym is)
    (of r given)
  where
    same : w ≡ c
    same = same_Some w c (sym at ∙ it)

    of : (r : Result (List Answer) E) → IfOk r (HaveAnswers hash register lines pass)
        → IfSome (result_ok r)
        (HaveAnswers k.text.hash (wanted k.text.rules c.cred) c.lines pass)
    of (Ok answers) have =
        subst (λ (a : Algo). HaveAnswers a (wanted k.text.rules c.cred) c.lines pass answers) algo
        (subst (λ (p : Option ℕ). HaveAnswers hash p c.lines pass answers)
        (pcr ∙ (λ j. wanted (are j) (same j).cred))
        (subst (λ (ls : List Buffer). HaveAnswers hash register ls pass answers)
        (own ∙ ap (λ (v : CallerValue). v.lines) same) have))
    of (Err e) have = tt

pub returns : goal.returns
returns g c = record {
  name = c.answer_lines-answers.ensures.same.name
      ∙ ap (λ (p : Passed Entry). p.name) c.requires.ready.pass;
  number = c.answer_lines-answers.ensures.same.number
      ∙ ap (λ (p : Passed Entry). p.number) c.requires.ready.pass;
  answered =
      let same : c.replace-lines.result.items ≡ c.args.worker.now.lines.items = cc in
      caller_answered g.N.Name.constants c.args.number (caller_of c.args.worker.now) c.args.hash
      c.args.rules.now c.wanted-register.result c.replace-lines.result.items
      c.answer_lines-answers.new.pass c.answer_lines-answers.result c.ok.result
      c.requires.shared.algo_is c.requires.shared.rules_are c.wanted-register.ensures.register same
      c.requires.ready.caller c.answer_lines-answers.ensures.answered c.ok.ensures.value;
}
