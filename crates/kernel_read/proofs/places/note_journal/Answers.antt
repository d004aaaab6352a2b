use Rattle.std.proofs.Common.{List, sym, ◌∙◌, ap}
use Rattle.std.proofs.lemmas.List.{take_all}
use Rattle.script_text.specs.events.declared.told.Event.{Event}
use Rattle.run_laws.specs.kernel_reads.Reads.{place_of_call}
use Rattle.kernel_read.specs.Places.{calls_in, cell, noted, reads}
use Rattle.kernel_read.proofs.Cells.{journal_more, noted_none}
use Rattle.kernel_read.proofs.places.note_journal.Goals as goal

pub loop-event-init : goal.loop-event-init
loop-event-init c =
    record {
      shape = c.requires;
      cells =
          λ n k. sym (noted_none (reads (calls_in c.args.tasks.now) n k c.args.inode)
          (cell c.args.rows.now n k));
    }

pub loop-event-preserved : goal.loop-event-preserved
loop-event-preserved c = record {
  shape = c.note_event.ensures.shape;
  cells = λ n k. journal_more (reads (calls_in c.args.tasks.now) n k c.args.inode)
      (cell c.args.rows.now n k) (cell c.loop-event.rows n k) (cell c.note_event.new.rows n k) n k
      c.loop-event.event-index c.args.journal.now c.event-item.result c.loop-event-test.true
      c.event-item.is (c.loop-event.invariant.cells n k) (c.note_event.ensures.cells n k);
}

pub returns : goal.returns
returns c = record {
  shape = c.loop-event.invariant.shape;
  cells = λ n k. c.loop-event.invariant.cells n k
      ∙ ap (λ (l : List Event). noted (reads (calls_in c.args.tasks.now) n k c.args.inode)
      (cell c.args.rows.now n k) (place_of_call n k l))
      (take_all c.loop-event.event-index c.args.journal.now c.loop-event-test.false);
}
