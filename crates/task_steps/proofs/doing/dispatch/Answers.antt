use Rattle.std.proofs.Common.{◌≡◌, refl, sym, subst}
use Rattle.std.specs.Prelude.{IfOk}
use Rattle.inode_events.specs.Asked.{outcome}
use Rattle.inode_events.specs.NewestFirst.{newest_first}
use Rattle.inode_events.specs.declared.deed.Deed.TheVariants as deed
use Rattle.task_state.specs.Steps.{deed_in}
use Rattle.task_state.specs.declared.step.DueDeed.{DueDeed}
use Rattle.task_steps.proofs.Leaving.{hashes_told, leaves_told, on_err, told_acts, told_at}
use Rattle.task_steps.specs.Leaving.{Leaves, told_in}
use Rattle.world_model.specs.Due.{HashesTold}
use Rattle.task_steps.proofs.doing.dispatch.Goals as goal

pub returns-in_default : goal.returns-in_default
returns-in_default c =
    record {
      leaves = c.dispatch_alone.ensures.leaves c.args.book.now.list;
      told = told_at c.args.cell.now.inode c.args.cell.now.list (deed_in c.args.due)
          c.dispatch_alone.result c.dispatch_alone.ensures.told c.args.book.now.list;
      hashes = c.dispatch_alone.ensures.hashes;
      book = (refl, refl);
    }

pub returns-in-Take-clause-leaves : goal.returns-in-Take-clause-leaves
returns-in-Take-clause-leaves c =
    subst (λ (x : DueDeed). Leaves c.args.cell.now c.take.new.cell c.args.book.now.list
    c.take.new.book.list c.args.pass.now c.take.new.pass c.args.actor.now.who (deed_in x)
    (told_in c.take.result)) (sym c.in-Take.is)
    (leaves_told c.args.cell.now c.take.new.cell c.args.book.now.list c.take.new.book.list
    c.args.pass.now c.take.new.pass c.args.actor.now.who (deed.Take c.in-Take.file) c.take.result
    c.take.ensures.acts c.take.ensures.err c.take.ensures.err_book c.requires.seen)

pub returns-in-Finish-clause-leaves : goal.returns-in-Finish-clause-leaves
returns-in-Finish-clause-leaves c =
    subst (λ (x : DueDeed). Leaves c.args.cell.now c.finish.new.cell c.args.book.now.list
    c.finish.new.book.list c.args.pass.now c.finish.new.pass c.args.actor.now.who (deed_in x)
    (told_in c.finish.result)) (sym c.in-Finish.is)
    (leaves_told c.args.cell.now c.finish.new.cell c.args.book.now.list c.finish.new.book.list
    c.args.pass.now c.finish.new.pass c.args.actor.now.who (deed.Finish c.in-Finish.file) c.finish.result
    c.finish.ensures.acts c.finish.ensures.err c.finish.ensures.err_book c.requires.seen)

pub returns-in-Take-clause-told : goal.returns-in-Take-clause-told
returns-in-Take-clause-told c =
    subst (λ (x : DueDeed). IfOk c.take.result (λ o. o
    ≡ outcome c.args.cell.now.inode c.args.book.now.list (deed_in x)
    (newest_first c.args.cell.now.list))) (sym c.in-Take.is)
    (told_acts c.args.cell.now c.take.new.cell c.args.book.now.list c.take.new.book.list
    c.args.pass.now c.take.new.pass c.args.actor.now.who (deed.Take c.in-Take.file) c.take.result
    c.take.ensures.acts)

pub returns-in-Take-clause-hashes : goal.returns-in-Take-clause-hashes
returns-in-Take-clause-hashes c =
    subst (λ (x : DueDeed). HashesTold c.args.cell.now.inode c.take.new.cell.list
    c.args.hash_state.now c.take.new.hash_state (deed_in x) (told_in c.take.result)) (sym c.in-Take.is)
    (hashes_told c.args.cell.now.inode c.take.new.cell.list c.args.hash_state.now
    c.take.new.hash_state (deed.Take c.in-Take.file) c.take.result c.take.ensures.hashes
    c.take.ensures.kept)

pub returns-in-Finish-clause-told : goal.returns-in-Finish-clause-told
returns-in-Finish-clause-told c =
    subst (λ (x : DueDeed). IfOk c.finish.result (λ o. o
    ≡ outcome c.args.cell.now.inode c.args.book.now.list (deed_in x)
    (newest_first c.args.cell.now.list))) (sym c.in-Finish.is)
    (told_acts c.args.cell.now c.finish.new.cell c.args.book.now.list c.finish.new.book.list
    c.args.pass.now c.finish.new.pass c.args.actor.now.who (deed.Finish c.in-Finish.file) c.finish.result
    c.finish.ensures.acts)

pub returns-in-Finish-clause-hashes : goal.returns-in-Finish-clause-hashes
returns-in-Finish-clause-hashes c =
    subst (λ (x : DueDeed). HashesTold c.args.cell.now.inode c.finish.new.cell.list
    c.args.hash_state.now c.args.hash_state.now (deed_in x) (told_in c.finish.result)) (sym c.in-Finish.is)
    (hashes_told c.args.cell.now.inode c.finish.new.cell.list c.args.hash_state.now
    c.args.hash_state.now (deed.Finish c.in-Finish.file) c.finish.result c.finish.ensures.hashes
    (on_err c.finish.result _ refl))
