-- After the look the deed may be done, and its effect is one on the cell before the look.
use Rattle.std.proofs.Common.{ℕ, List}
use Rattle.inode_cell.specs.answers.Answers.{piece_told}
use Rattle.inode_cell.specs.answers.declared.answers.Piece.{Piece}
use Rattle.task_state.specs.Steps.{deed_in}
use Rattle.world_locks.proofs.Alone.{CellLooked, has_looked, leaves_alone, may_after, told_alone}
use Rattle.world_locks.proofs.pages.take_page.Goals as goal

pub next_page-requires-clause-may : goal.next_page-requires-clause-may
next_page-requires-clause-may c =
    let look : CellLooked c.args.cell.now c.look.new.self c.args.pass.now c.look.new.pass = record {
      list = c.look.ensures.list;
      same = c.look.ensures.same;
      before = c.look.ensures.before;
      seen = c.look.ensures.seen;
      mine = c.look.ensures.mine;
      same_pass = c.look.ensures.pass;
      tells = c.look.ensures.tells;
      own = c.look.ensures.own;
      legal = c.look.ensures.legal;
      owned = c.look.ensures.owned;
    } in
    may_after c.args.cell.now c.look.new.self c.args.pass.now c.look.new.pass look
    (deed_in c.args.due) c.requires.may

pub returns-clause-looked : goal.returns-clause-looked
returns-clause-looked c =
    let look : CellLooked c.args.cell.now c.look.new.self c.args.pass.now c.look.new.pass = record {
      list = c.look.ensures.list;
      same = c.look.ensures.same;
      before = c.look.ensures.before;
      seen = c.look.ensures.seen;
      mine = c.look.ensures.mine;
      same_pass = c.look.ensures.pass;
      tells = c.look.ensures.tells;
      own = c.look.ensures.own;
      legal = c.look.ensures.legal;
      owned = c.look.ensures.owned;
    } in
    has_looked c.args.cell.now c.look.new.self c.args.pass.now c.look.new.pass look

pub returns-clause-leaves : goal.returns-clause-leaves
returns-clause-leaves c =
    let look : CellLooked c.args.cell.now c.look.new.self c.args.pass.now c.look.new.pass = record {
      list = c.look.ensures.list;
      same = c.look.ensures.same;
      before = c.look.ensures.before;
      seen = c.look.ensures.seen;
      mine = c.look.ensures.mine;
      same_pass = c.look.ensures.pass;
      tells = c.look.ensures.tells;
      own = c.look.ensures.own;
      legal = c.look.ensures.legal;
      owned = c.look.ensures.owned;
    } in
    leaves_alone c.args.cell.now c.look.new.self c.args.pass.now c.look.new.pass look
    (λ (r : Piece × List ℕ). piece_told r.0)
    c.next_page.new.cell c.next_page.new.pass c.args.who (deed_in c.args.due) c.next_page.result
    c.next_page.ensures.acts c.next_page.ensures.err

pub returns-clause-told : goal.returns-clause-told
returns-clause-told c =
    let look : CellLooked c.args.cell.now c.look.new.self c.args.pass.now c.look.new.pass = record {
      list = c.look.ensures.list;
      same = c.look.ensures.same;
      before = c.look.ensures.before;
      seen = c.look.ensures.seen;
      mine = c.look.ensures.mine;
      same_pass = c.look.ensures.pass;
      tells = c.look.ensures.tells;
      own = c.look.ensures.own;
      legal = c.look.ensures.legal;
      owned = c.look.ensures.owned;
    } in
    told_alone c.args.cell.now c.look.new.self c.args.pass.now c.look.new.pass look
    (λ (r : Piece × List ℕ). piece_told r.0)
    c.next_page.new.cell c.next_page.new.pass c.args.who (deed_in c.args.due) c.next_page.result
    c.next_page.ensures.acts
