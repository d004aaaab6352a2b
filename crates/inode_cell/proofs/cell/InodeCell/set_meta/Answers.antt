use Rattle.std.proofs.Common.{Some, sym, ◌∙◌}
use Rattle.inode_events.specs.declared.deed.Deed.TheVariants as deed
use Rattle.inode_events.specs.declared.told.Told.TheVariants as told
use Rattle.inode_events.specs.NewestFirst.{newest_first}
use Rattle.inode_events.specs.Integrity.{collecting}
use Rattle.inode_answers.specs.Answers.{set_told}
use Rattle.inode_cell.proofs.Acting.{acts_from, acts_refused, blocked}
use Rattle.inode_events.specs.Says.{set_meta_told}
use Rattle.inode_cell.proofs.cell.InodeCell.set_meta.Goals as goal

pub returns-then-is_collecting-clause-acts : goal.returns-then-is_collecting-clause-acts
returns-then-is_collecting-clause-acts c = λ list.
    let v = c.args.self.now in
    c.block.ensures list c.args.who (deed.SetMeta c.args.change)
    (blocked (collecting v.inode (newest_first
    v.list)) (set_meta_told v.inode (newest_first v.list)) (sym c.is_collecting.ensures
    ∙ c.if-is_collecting.true))

pub returns-in_ok-step_with-in-Done-clause-acts : goal.returns-in_ok-step_with-in-Done-clause-acts
returns-in_ok-step_with-in-Done-clause-acts c = λ list.
    acts_from c.args.self.now c.reserve.new.self c.step_with.new.self list list c.args.pass.now
    c.step_with.new.pass c.args.who (deed.SetMeta c.args.change) (Some told.Done)
    c.in_ok-reserve.ensures.list c.in_ok-reserve.ensures.same
    (c.in_ok-step_with-in-Done.ensures.acts list)

pub returns-in_default : goal.returns-in_default
returns-in_default c = record {
  acts = λ list.
      acts_refused c.args.self.now c.reserve.new.self c.step.new.self list list c.args.pass.now
      c.step.new.pass c.args.who (deed.SetMeta c.args.change)
      c.set_outcome.result
      (set_meta_told c.reserve.new.self.inode (newest_first c.reserve.new.self.list))
      (set_told c.meta_answer.result) c.in_ok-reserve.ensures.list c.in_ok-reserve.ensures.same
      (c.set_outcome.ensures
      (set_meta_told c.reserve.new.self.inode (newest_first c.reserve.new.self.list))
      c.meta_answer.ensures) c.meta_answer.ensures (c.step.ensures list);
  err = tt;
}
