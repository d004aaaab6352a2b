use Rattle.std.proofs.Common.{Some}
use Rattle.inode_events.specs.declared.deed.Deed.TheVariants as deed
use Rattle.inode_events.specs.declared.told.Told.TheVariants as told
use Rattle.inode_cell.proofs.Acting.{acts_from}
use Rattle.inode_cell.proofs.cell.InodeCell.read.Goals as goal

pub returns-clause-acts : goal.returns-clause-acts
returns-clause-acts c = λ list.
    acts_from c.args.self.now c.reserve.new.self c.step.new.self list list c.args.pass.now
    c.step.new.pass c.args.who (deed.Read c.args.file c.args.from c.args.len) (Some (told.Read
    c.hashed-got.result.n c.hashed-got.result.digest))
    c.in_ok-reserve.ensures.list c.in_ok-reserve.ensures.same (c.step.ensures list)
