use Rattle.std.proofs.Common.{Some, sym, ◌∙◌}
use Rattle.inode_events.specs.declared.deed.Deed.TheVariants as deed
use Rattle.inode_events.specs.declared.told.Told.TheVariants as told
use Rattle.inode_events.specs.NewestFirst.{newest_first}
use Rattle.inode_events.specs.Integrity.{collecting}
use Rattle.inode_cell.proofs.Acting.{acts_from, blocked}
use Rattle.inode_events.specs.Files.{writers}
use Rattle.inode_events.specs.Marks.{is_label_due}
use Rattle.inode_events.specs.Says.{close_take_told}
use Rattle.inode_cell.proofs.cell.InodeCell.close_take.Goals as goal

pub returns-then-is_collecting-clause-acts : goal.returns-then-is_collecting-clause-acts
returns-then-is_collecting-clause-acts c = λ list.
    let v = c.args.self.now in
    c.block.ensures list c.args.who (deed.CloseTake c.args.file)
    (blocked (collecting v.inode (newest_first
    v.list)) (close_take_told (is_label_due v.inode (newest_first v.list))
    (writers (newest_first v.list))) (sym c.is_collecting.ensures ∙ c.if-is_collecting.true))

pub returns-then-is_label_due_now-clause-acts : goal.returns-then-is_label_due_now-clause-acts
returns-then-is_label_due_now-clause-acts c = λ list.
    acts_from c.args.self.now c.reserve.new.self c.step.new.self list list c.args.pass.now
    c.step.new.pass c.args.who (deed.CloseTake c.args.file) (Some told.Begun)
    c.in_ok-reserve.ensures.list c.in_ok-reserve.ensures.same (c.step.ensures list)

pub returns-else-is_label_due_now-clause-acts : goal.returns-else-is_label_due_now-clause-acts
returns-else-is_label_due_now-clause-acts c = λ list.
    acts_from c.args.self.now c.reserve.new.self c.step-else-is_label_due_now.new.self list list
    c.args.pass.now c.step-else-is_label_due_now.new.pass c.args.who (deed.CloseTake c.args.file)
    (Some told.Dropped)
    c.in_ok-reserve.ensures.list c.in_ok-reserve.ensures.same
    (c.step-else-is_label_due_now.ensures list)
