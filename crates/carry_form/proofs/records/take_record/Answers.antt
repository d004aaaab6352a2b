-- The record is read as the definition reads it.
use Rattle.carry_form.specs.Reading.{parts_of}
use Rattle.carry_form.proofs.RecordLemmas.{Takes-record, record_in-entry}
use Rattle.carry_form.proofs.records.take_record.Goals as goal

pub returns-in_ok-push-in-Some-2 : goal.returns-in_ok-push-in-Some-2
returns-in_ok-push-in-Some-2 c =
    Takes-record c.args.list.now.items c.push.new.self.items c.in-Some.parts.rest.now
    c.in-Some-2.entry _
    (record_in-entry c.args.bytes.now (parts_of c.in-Some.parts) c.in-Some-2.entry
    c.in-Some.ensures (rw c.in-Some-2.is at c.in_ok-entry.ensures))
    c.in_ok-push-in-Some-2.ensures.items
