use Rattle.task_state.specs.Steps.{deed_in}
use Rattle.task_steps.proofs.Leaving.{hashes_told, leaves_alone, told_alone}
use Rattle.task_steps.proofs.doing.dispatch_alone.Goals as goal

pub returns-then-goes_on-clause-leaves : goal.returns-then-goes_on-clause-leaves
returns-then-goes_on-clause-leaves c =
    leaves_alone c.args.cell.now c.collect.new.cell c.args.pass.now c.collect.new.pass
    c.args.actor.now.who (deed_in c.args.due) c.collect.result c.collect.ensures.acts
    c.collect.ensures.err c.requires.seen

pub returns-else-goes_on-clause-leaves : goal.returns-else-goes_on-clause-leaves
returns-else-goes_on-clause-leaves c =
    leaves_alone c.args.cell.now c.apply_plain.new.cell c.args.pass.now c.apply_plain.new.pass c.args.actor.now.who
    (deed_in c.args.due) c.apply_plain.result c.apply_plain.ensures.acts c.apply_plain.ensures.err c.requires.seen

pub returns-then-goes_on-clause-told : goal.returns-then-goes_on-clause-told
returns-then-goes_on-clause-told c =
    told_alone c.args.cell.now c.collect.new.cell c.args.pass.now c.collect.new.pass c.args.actor.now.who
    (deed_in c.args.due) c.collect.result c.collect.ensures.acts

pub returns-else-goes_on-clause-told : goal.returns-else-goes_on-clause-told
returns-else-goes_on-clause-told c =
    told_alone c.args.cell.now c.apply_plain.new.cell c.args.pass.now c.apply_plain.new.pass c.args.actor.now.who
    (deed_in c.args.due) c.apply_plain.result c.apply_plain.ensures.acts

pub returns-then-goes_on-clause-hashes : goal.returns-then-goes_on-clause-hashes
returns-then-goes_on-clause-hashes c =
    hashes_told c.args.cell.now.inode c.collect.new.cell.list c.args.hash_state.now
    c.collect.new.hash_state (deed_in c.args.due) c.collect.result c.collect.ensures.hashes
    c.collect.ensures.kept
