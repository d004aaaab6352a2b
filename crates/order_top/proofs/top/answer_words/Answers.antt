use Rattle.std.proofs.Common.{◌∙◌, Option, ap, is_some, map, string_bytes, sym}
use Rattle.std.proofs.lemmas.Bool.{true≢false}
use Rattle.order_top.specs.Words.{AskedValue, asked_of, asked_value}
use Rattle.order_top.proofs.Asking.{no_read_fault, no_reading, no_write_fault, nothing_read, some_holds, usage_is}
use Rattle.order_top.proofs.Wording.{asked_few}
use Rattle.order_top.proofs.top.answer_words.Goals as goal

pub perform-requires : goal.perform-requires
perform-requires g c =
    asked_few (map string_bytes c.args.words.now) (asked_value c.in-Ok.asked) c.in-Ok.ensures

pub returns-in-Ok-clause-usage : goal.returns-in-Ok-clause-usage
returns-in-Ok-clause-usage g c = (
  λ e. absurd (c.perform.ensures.words e),
  λ none. absurd (true≢false
      (sym (ap (λ (o : Option AskedValue). is_some o) c.in-Ok.ensures) ∙ none)),
)

pub returns-in-Ok-clause-input : goal.returns-in-Ok-clause-input
returns-in-Ok-clause-input g c =
    some_holds (asked_of (map string_bytes c.args.words.now)) (asked_value c.in-Ok.asked) _
    c.in-Ok.ensures c.perform.ensures.input

pub returns-in-Err-clause-usage : goal.returns-in-Err-clause-usage
returns-in-Err-clause-usage g c =
    usage_is (asked_of (map string_bytes c.args.words.now)) c.in-Err.why c.in-Err.ensures

pub returns-in-Err-clause-whole_input : goal.returns-in-Err-clause-whole_input
returns-in-Err-clause-whole_input g c = λ past.
    absurd (no_reading (asked_of (map string_bytes c.args.words.now)) c.in-Err.why c.in-Err.ensures
    past)

pub returns-in-Err-clause-read_fault : goal.returns-in-Err-clause-read_fault
returns-in-Err-clause-read_fault g c = λ is.
    absurd (no_read_fault (asked_of (map string_bytes c.args.words.now)) c.in-Err.why
    c.in-Err.ensures is)

pub returns-in-Err-clause-write_fault : goal.returns-in-Err-clause-write_fault
returns-in-Err-clause-write_fault g c = λ is.
    absurd (no_write_fault (asked_of (map string_bytes c.args.words.now)) c.in-Err.why
    c.in-Err.ensures is)

pub returns-in-Err-clause-input : goal.returns-in-Err-clause-input
returns-in-Err-clause-input g c =
    nothing_read (asked_of (map string_bytes c.args.words.now)) c.in-Err.why c.in-Err.ensures
    (g.S.Source.left c.args.script.now) (g.K.Sink.taken c.args.out.now)
