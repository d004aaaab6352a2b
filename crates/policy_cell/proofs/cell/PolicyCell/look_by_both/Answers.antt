-- Each look leaves the rules as they were.
use Rattle.std.proofs.Common.{◌∙◌, sym}
use Rattle.policy_cell.specs.Policy.{LooksAt}
use Rattle.policy_cell.proofs.Looks.{looks_first, looks_second}
use Rattle.policy_cell.proofs.cell.PolicyCell.look_by_both.Goals as goal

pub look-requires-2 : goal.look-requires-2
look-requires-2 c = c.requires.second ∙ sym c.look.ensures.list.name

pub returns-clause-first : goal.returns-clause-first
returns-clause-first c =
    let one : LooksAt c.args.self.now c.look.new.self c.args.first.now c.look.new.pass =
    record {
      base = c.look.ensures.base;
      list = c.look.ensures.list;
      before = c.look.ensures.before;
      seen = c.look.ensures.seen;
      mine = c.look.ensures.mine;
      same = c.look.ensures.same_pass;
    } in
    let other : LooksAt c.look.new.self c.look-2.new.self c.args.second.now c.look-2.new.pass =
    record {
      base = c.look-2.ensures.base;
      list = c.look-2.ensures.list;
      before = c.look-2.ensures.before;
      seen = c.look-2.ensures.seen;
      mine = c.look-2.ensures.mine;
      same = c.look-2.ensures.same_pass;
    } in
    looks_first c.args.self.now c.look.new.self c.look-2.new.self c.args.first.now
    c.look.new.pass c.args.second.now c.look-2.new.pass one other

pub returns-clause-second : goal.returns-clause-second
returns-clause-second c =
    let one : LooksAt c.args.self.now c.look.new.self c.args.first.now c.look.new.pass =
    record {
      base = c.look.ensures.base;
      list = c.look.ensures.list;
      before = c.look.ensures.before;
      seen = c.look.ensures.seen;
      mine = c.look.ensures.mine;
      same = c.look.ensures.same_pass;
    } in
    let other : LooksAt c.look.new.self c.look-2.new.self c.args.second.now c.look-2.new.pass =
    record {
      base = c.look-2.ensures.base;
      list = c.look-2.ensures.list;
      before = c.look-2.ensures.before;
      seen = c.look-2.ensures.seen;
      mine = c.look-2.ensures.mine;
      same = c.look-2.ensures.same_pass;
    } in
    looks_second c.args.self.now c.look.new.self c.look-2.new.self c.args.first.now
    c.look.new.pass c.args.second.now c.look-2.new.pass one other
