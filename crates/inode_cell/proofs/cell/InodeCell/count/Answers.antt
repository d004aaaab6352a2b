use Rattle.std.proofs.Common.{Some, ap}
use Rattle.inode_events.specs.declared.deed.Deed.TheVariants as deed
use Rattle.inode_answers.specs.Answers.{counted_told}
use Rattle.inode_cell.proofs.Acting.{acts_ok}
use Rattle.inode_cell.proofs.cell.InodeCell.count.Goals as goal

pub returns-clause-acts : goal.returns-clause-acts
returns-clause-acts c = λ list.
    acts_ok c.args.self.now c.reserve.new.self c.step.new.self list list c.args.pass.now
    c.step.new.pass c.args.who (deed.Count c.args.how)
    c.counted_told.result (Some (counted_told c.counted-answer.result)) c.in_ok-reserve.ensures.list
    c.in_ok-reserve.ensures.same (ap Some c.counted_told.ensures) (c.step.ensures list)
