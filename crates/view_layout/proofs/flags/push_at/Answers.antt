use Rattle.std.proofs.Common.{append-nil, sym}
use Rattle.list_lemmas.proofs.Appending.{one_each}
use Rattle.view_journal.specs.declared.kinds.Note.TheVariants as note
use Rattle.view_layout.specs.Flags.{noted}
use Rattle.view_layout.proofs.Appended.{each_there}
use Rattle.view_layout.proofs.flags.push_at.Goals as goal

pub loop-note-init : goal.loop-note-init
loop-note-init c = sym (append-nil c.args.noted.now.items)

pub loop-note-preserved : goal.loop-note-preserved
loop-note-preserved c =
    one_each c.args.noted.now.items (noted c.args.x c.args.event) c.args.notes.now
    c.loop-note.note-index (note.ToMToU 0) c.loop-note-test.true c.loop-note.invariant c.in_ok-push.ensures.items

pub returns : goal.returns
returns c =
    each_there c.args.noted.now.items (noted c.args.x c.args.event) c.args.notes.now
    c.loop-note.note-index c.loop-note-test.false c.loop-note.invariant
