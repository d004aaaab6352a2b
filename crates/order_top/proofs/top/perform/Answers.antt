use Rattle.std.proofs.Common.{refl, sym, ◌∙◌}
use Rattle.order_top.specs.Words.{asked_value}
use Rattle.order_top.proofs.Performing.{input_unanswered, input_unread, status_is, unanswered, unread}
use Rattle.order_top.proofs.top.perform.Goals as goal

pub returns-in_err-input : goal.returns-in_err-input
returns-in_err-input g c =
    let r = c.from_residual.result in
    let w = c.in_err-input.field-0.0 in
    let given = c.from_residual.ensures.1 in
    let u = c.in_err-input.ensures.causes in
    let only = unread r w given u in
    record {
      words = only.usage;
      whole_input = λ past. absurd (only.past past);
      read_fault = λ is. c.in_err-input.ensures.read_fault (sym (status_is r w given) ∙ is);
      input = input_unread r w given (asked_value c.args.asked) _ _ _ _ u
          c.in_err-input.ensures.input;
      unwritten = λ _ _. refl {a = c.args.out.now};
      write_fault = λ is. absurd (only.write_fault is);
    }

pub returns-in_err-output : goal.returns-in_err-output
returns-in_err-output g c =
    let r = c.from_residual-in_err-output.result in
    let w = c.in_err-output.field-0.0 in
    let given = c.from_residual-in_err-output.ensures.1 in
    let asked = asked_value c.args.asked in
    let only = unanswered r w given asked c.in_ok-input.input c.in_err-output.ensures in
    record {
      words = only.usage;
      whole_input = λ _. c.in_ok-input.ensures.whole_input;
      read_fault = λ is. absurd (only.read_fault is);
      input = input_unanswered r w given asked c.in_ok-input.input c.in_err-output.ensures _ _ _ _
          c.in_ok-input.ensures.input;
      unwritten = λ _ _. refl {a = c.args.out.now};
      write_fault = λ is. absurd (only.write_fault is);
    }
