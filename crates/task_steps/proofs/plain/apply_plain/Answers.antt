-- Each arm's call did the deed that is due, and its answer is the deed's.
use Rattle.std.proofs.Common.{ℕ, List, Some, sym, ◌∙◌, ap, subst}
use Rattle.inode_events.specs.declared.deed.Deed.TheVariants as deed
use Rattle.inode_events.specs.declared.told.Told.TheVariants as told
use Rattle.task_state.specs.Steps.{deed_in}
use Rattle.task_state.specs.declared.step.DueDeed.{DueDeed}
use Rattle.task_steps.proofs.Leaving.{acts_by, acts_due, stays_by}
use Rattle.world_model.specs.inodes.Acts.{MayBy}
use Rattle.world_model.specs.inodes.answers.Answers.{counted_told, set_told, wrote_told}
use Rattle.world_model.specs.inodes.answers.declared.answers.Counted.{Counted}
use Rattle.world_model.specs.inodes.answers.declared.answers.Got.{Got}
use Rattle.world_model.specs.inodes.answers.declared.answers.Wrote.{Wrote}
use Rattle.task_steps.proofs.plain.apply_plain.Goals as goal

pub returns-in-Count : goal.returns-in-Count
returns-in-Count c = record {
  acts = acts_by c.args.cell.now c.count.new.self c.args.pass.now c.count.new.pass c.args.who
      (λ (k : Counted). Some (counted_told k)) c.count.result c.count_answer.result
      (ap deed_in c.in-Count.is) c.count_answer.ensures c.count.ensures.acts;
  err = stays_by _ (λ (k : Counted). Some (counted_told k)) c.count.result c.count_answer.result
      c.count_answer.ensures c.count.ensures.err;
}

pub returns-in-Read : goal.returns-in-Read
returns-in-Read c = record {
  acts = acts_by c.args.cell.now c.read.new.self c.args.pass.now c.read.new.pass c.args.who
      (λ (g : Got). Some (told.Read g.n g.digest)) c.read.result c.read_answer.result
      (ap deed_in c.in-Read.is) c.read_answer.ensures c.read.ensures.acts;
  err = stays_by _ (λ (g : Got). Some (told.Read g.n g.digest)) c.read.result c.read_answer.result
      c.read_answer.ensures c.read.ensures.err;
}

pub returns-in-Write : goal.returns-in-Write
returns-in-Write c = record {
  acts = acts_by c.args.cell.now c.write.new.self c.args.pass.now c.write.new.pass c.args.who
      (λ (w : Wrote). Some (wrote_told w)) c.write.result c.write_answer.result
      (ap deed_in c.in-Write.is
      ∙ ap (deed.Write c.in-Write.file c.in-Write.from) (sym c.as_slice.ensures.bytes))
      c.write_answer.ensures c.write.ensures.acts;
  err = stays_by _ (λ (w : Wrote). Some (wrote_told w)) c.write.result c.write_answer.result
      c.write_answer.ensures c.write.ensures.err;
}

pub returns-in-Trunc : goal.returns-in-Trunc
returns-in-Trunc c = record {
  acts = acts_by c.args.cell.now c.trunc.new.self c.args.pass.now c.trunc.new.pass c.args.who
      (λ (w : Wrote). Some (wrote_told w)) c.trunc.result c.write_answer-in-Trunc.result
      (ap deed_in c.in-Trunc.is) c.write_answer-in-Trunc.ensures c.trunc.ensures.acts;
  err = stays_by _ (λ (w : Wrote). Some (wrote_told w)) c.trunc.result c.write_answer-in-Trunc.result
      c.write_answer-in-Trunc.ensures c.trunc.ensures.err;
}

pub returns-in-SetAttr-clause-acts : goal.returns-in-SetAttr-clause-acts
returns-in-SetAttr-clause-acts c =
    acts_due c.args.cell.now c.set_attr.new.cell c.args.pass.now c.set_attr.new.pass c.args.who
    c.set_attr.result c.in-SetAttr.is c.set_attr.ensures.acts

pub returns-in-SetMeta : goal.returns-in-SetMeta
returns-in-SetMeta c = record {
  acts = acts_by c.args.cell.now c.set_meta.new.self c.args.pass.now c.set_meta.new.pass c.args.who
      set_told c.set_meta.result c.change_answer.result
      (ap deed_in c.in-SetMeta.is) c.change_answer.ensures c.set_meta.ensures.acts;
  err = stays_by _ set_told c.set_meta.result c.change_answer.result
      c.change_answer.ensures c.set_meta.ensures.err;
}

pub returns-in-Close : goal.returns-in-Close
returns-in-Close c = record {
  acts = acts_by c.args.cell.now c.close_read.new.self c.args.pass.now c.close_read.new.pass
      c.args.who (λ _. Some told.Dropped) c.close_read.result c.close_answer.result
      (ap deed_in c.in-Close.is) c.close_answer.ensures c.close_read.ensures.acts;
  err = stays_by _ (λ _. Some told.Dropped) c.close_read.result c.close_answer.result
      c.close_answer.ensures c.close_read.ensures.err;
}

pub read-requires-clause-may : goal.read-requires-clause-may
read-requires-clause-may c =
    subst (λ (x : DueDeed). MayBy c.args.cell.now c.args.pass.now.number (deed_in x)) c.in-Read.is
    c.requires.may

pub trunc-requires-clause-may : goal.trunc-requires-clause-may
trunc-requires-clause-may c =
    subst (λ (x : DueDeed). MayBy c.args.cell.now c.args.pass.now.number (deed_in x)) c.in-Trunc.is
    c.requires.may

pub close_read-requires-clause-may : goal.close_read-requires-clause-may
close_read-requires-clause-may c =
    subst (λ (x : DueDeed). MayBy c.args.cell.now c.args.pass.now.number (deed_in x)) c.in-Close.is
    c.requires.may

pub write-requires-clause-may : goal.write-requires-clause-may
write-requires-clause-may c =
    subst (λ (b : List ℕ). MayBy c.args.cell.now c.args.pass.now.number
    (deed.Write c.in-Write.file c.in-Write.from b)) (sym c.as_slice.ensures.bytes)
    (subst (λ (x : DueDeed). MayBy c.args.cell.now c.args.pass.now.number (deed_in x))
    c.in-Write.is c.requires.may)
