use Rattle.std.proofs.Common.{List, ◌≡◌, ◌++◌, Option, length, take, drop, sym, ◌∙◌, ap, subst}
use Rattle.std.proofs.lemmas.List.{take_at}
use Rattle.script_text.specs.steps.templates.declared.entry.Placed.{Placed}
use Rattle.script_text.specs.events.EndedInode.{EndedInodeValue}
use Rattle.script_text.specs.events.declared.told.Event.{Event}
use Rattle.run_laws.specs.kernel_reads.Reads.{place_of_call}
use Rattle.kernel_read.specs.Places.{HasShape, calls_in, cell, noted, read_at, reads}
use Rattle.kernel_read.proofs.Cells.{inode_more}
use Rattle.kernel_read.proofs.places.places.Goals as goal

pub loop-number-preserved : goal.loop-number-preserved
loop-number-preserved c =
    let rows : List (List (Option Placed)) = c.note_journal.new.rows in
    let same : take c.loop-number.rows.len (c.note_journal.new.rows
    ++ drop (length c.note_journal.new.rows) c.loop-number.rows.items) ≡ c.note_journal.new.rows =
    take_at c.note_journal.new.rows (drop (length c.note_journal.new.rows) c.loop-number.rows.items)
    c.loop-number.rows.len
    (c.note_journal.auto.rows ∙ ap (λ (l : List (List (Option Placed))). length l)
    c.as_mut_slice.ensures.value ∙ sym c.loop-number.rows.ok.0) in
    record {
      shape = subst (λ (l : List (List (Option Placed))). HasShape (calls_in c.args.tasks.now) l)
          (sym same) c.note_journal.ensures.shape;
      cells = λ n k. ap (λ (l : List (List (Option Placed))). cell l n k) same
          ∙ inode_more c.args.inodes.now c.loop-number.number c.index-inodes-number.result
          (cell c.loop-number.rows.items n k) (cell c.note_journal.new.rows n k) n k
          (read_at (calls_in c.args.tasks.now) n k) c.loop-number-test.true
          c.index-inodes-number.is (c.loop-number.invariant.cells n k)
          (c.note_journal.ensures.cells n k
          ∙ ap (λ (l : List (List (Option Placed))).
          noted (reads (calls_in c.args.tasks.now) n k c.loop-number.number) (cell l n k)
          (place_of_call n k c.as_slice.result.now)) c.as_mut_slice.ensures.value
          ∙ ap (λ (l : List Event).
          noted (reads (calls_in c.args.tasks.now) n k c.loop-number.number)
          (cell c.loop-number.rows.items n k) (place_of_call n k l))
          (c.as_slice.ensures.value ∙ ap (λ (i : EndedInodeValue). i.journal) c.inode.view_is));
    }
