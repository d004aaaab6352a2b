use Rattle.std.proofs.Common.{◌≡◌, ℕ, List, Some, Vec, Result, Ok, Err, sym, ap, subst}
use Rattle.view_pages.specs.journals.reading.Read.{reports_of}
use Rattle.view_pages.specs.journals.reading.Report.{ReportValue}
use Rattle.view_top.specs.Answer.{Answers, answer_by, answer_of, bad_line, drawn, more, refusal_in}
use Rattle.view_top.specs.declared.command.Command.{Command}
use Rattle.view_top.specs.declared.not_done.NotDone.{NotDone}
use Rattle.view_top.proofs.answer.answer.Goals as goal

module _ (command : Command) (text : List ℕ) (k : ℕ) (asked : k ≡ more command) where
  -- what is drawn of the reports that were read is the answer
  read_answers : {A : Type 0} (result : Result (Vec ℕ A) NotDone) (rs slice : List ReportValue)
      → reports_of k text ≡ Ok rs → slice ≡ rs → Answers result (drawn command text slice)
      → Answers result (answer_of command text)
  unfolding answer_of
  read_answers result rs slice read same h =
      let P : Result (List ReportValue) ℕ → Type 0 =
      λ r. Answers result (answer_by command text r) in
      subst P (sym (subst (λ (n : ℕ). reports_of n text ≡ Ok rs) asked read))
      (subst (λ (l : List ReportValue). Answers result (drawn command text l)) same h)

  -- the line of a text that isn't read is that of the answer
  bad_answers : (line : ℕ) (told : List ℕ) → reports_of k text ≡ Err line → told ≡ bad_line line
      → refusal_in (answer_of command text) ≡ Some told
  unfolding answer_of
  bad_answers line told bad shown =
      let P : Result (List ReportValue) ℕ → Type 0 =
      λ r. refusal_in (answer_by command text r) ≡ Some told in
      subst P (sym (subst (λ (n : ℕ). reports_of n text ≡ Err line) asked bad))
      (ap (λ (l : List ℕ). Some l) (sym shown))

pub returns-in-Ok-clause-answer : goal.returns-in-Ok-clause-answer
returns-in-Ok-clause-answer c =
    read_answers c.args.command c.args.input.now c.more.result c.more.ensures c.drawn.result
    c.in-Ok.reports.items c.deref.result.now c.in-Ok.ensures.reports c.deref.ensures.value
    c.drawn.ensures.answer

pub returns-in_ok-bad_line-in-Err-Refused-clause-answer :
    goal.returns-in_ok-bad_line-in-Err-Refused-clause-answer
returns-in_ok-bad_line-in-Err-Refused-clause-answer c =
    bad_answers c.args.command c.args.input.now c.more.result c.more.ensures
    c.in-Err-Refused.line c.in_ok-bad_line-in-Err-Refused.field-0.items
    (rw c.in-Err-Refused.field-0-is at c.in-Err-Refused.ensures.reports)
    (rw c.in-Err-Refused.field-0-is at c.in_ok-bad_line-in-Err-Refused.ensures)
