-- One record after another is taken from the bytes.
use Rattle.std.proofs.Common.{refl, sym, ap, ◌∙◌, List}
use Rattle.ima_templates.specs.declared.entry.Entry.{Entry}
use Rattle.carry_form.specs.Reading.{record_in, records_in}
use Rattle.carry_form.proofs.RecordLemmas.{at_end, bytes_left, no_more, one_more, with_front, with_front-nil}
use Rattle.carry_form.proofs.records.records_in.Goals as goal

pub loop-left-init : goal.loop-left-init
loop-left-init c =
    ap (λ (front : List Entry). with_front front (records_in c.args.count c.args.bytes.now))
    c.new-list.ensures.items
    ∙ with_front-nil (records_in c.args.count c.args.bytes.now)

pub loop-left-preserved : goal.loop-left-preserved
loop-left-preserved c =
    one_more c.loop-left.left c.loop-left.list.items c.take_record.new.list.items
    c.loop-left.rest.now c.in-Some.after.now _ c.loop-left-test.true c.loop-left.invariant
    (record_in c.loop-left.rest.now) refl (rw c.in-Some.is at c.in_ok-after.ensures)

pub returns-in-None : goal.returns-in-None
returns-in-None c =
    no_more c.loop-left.left c.loop-left.list.items c.loop-left.rest.now _ c.loop-left-test.true
    c.loop-left.invariant (rw c.in-None.is at c.in_ok-after.ensures)

pub returns-then-is_empty : goal.returns-then-is_empty
returns-then-is_empty c =
    at_end c.loop-left.left c.loop-left.list.items c.loop-left.rest.now _ c.loop-left-test.false
    (sym c.is_empty.ensures ∙ c.if-is_empty.true) c.loop-left.invariant

pub returns-else-is_empty : goal.returns-else-is_empty
returns-else-is_empty c =
    bytes_left c.loop-left.left c.loop-left.list.items c.loop-left.rest.now _
    c.loop-left-test.false (sym c.is_empty.ensures ∙ c.if-is_empty.false) c.loop-left.invariant
