use Rattle.std.proofs.Common.{Some, ℕ, refl, sym, ap, subst, ◌∙◌}
use Rattle.inode_events.specs.declared.deed.Deed.TheVariants as deed
use Rattle.inode_events.specs.declared.told.Told.TheVariants as told
use Rattle.inode_events.specs.NewestFirst.{newest_first}
use Rattle.inode_events.specs.Integrity.{collecting}
use Rattle.inode_cell.proofs.Acting.{acts_from, may_from, label_of_close}
use Rattle.inode_cell.specs.Acts.{IsChange, MayBy}
use Rattle.inode_cell.specs.Fields.{value_of}
use Rattle.inode_cell.specs.Sums.{HasSums}
use Rattle.inode_cell.specs.Value.{CellValue}
use Rattle.inode_events.specs.Integrity.{attributes}
use Rattle.inode_events.specs.Says.{close_finish_told}
use Rattle.inode_events.specs.Stage.{is_collecting, is_gone}
use Rattle.inode_events.specs.State.{metadata}
use Rattle.inode_events.specs.declared.told.Event.{Event}
use Rattle.inode_state.specs.Facts.{AreFacts}
use Rattle.inode_state.specs.declared.facts.Facts.{Facts}
use Rattle.inode_state.specs.laws_of_journals.Own.{IsBy}
use Rattle.inode_cell.proofs.Acting.{sums_from}
use Rattle.inode_state.proofs.laws_of_journals.Stages.{stages}
use Rattle.inode_cell.proofs.cell.InodeCell.close_finish.Goals as goal

pub returns-in_ok-step_with-clause-acts : goal.returns-in_ok-step_with-clause-acts
returns-in_ok-step_with-clause-acts c = λ list.
    acts_from c.args.self.now c.reserve.new.self c.step_with.new.self list list c.args.pass.now
    c.step_with.new.pass c.args.who (deed.CloseFinish c.args.file) (Some told.LabelledDropped)
    c.in_ok-reserve.ensures.list c.in_ok-reserve.ensures.same (c.in_ok-step_with.ensures.acts list)

pub returns-else-state-eq1-clause-acts : goal.returns-else-state-eq1-clause-acts
returns-else-state-eq1-clause-acts c = λ list.
    acts_from c.args.self.now c.reserve.new.self c.step.new.self list list c.args.pass.now
    c.step.new.pass c.args.who (deed.CloseFinish c.args.file) (Some told.Dropped)
    c.in_ok-reserve.ensures.list c.in_ok-reserve.ensures.same (c.step.ensures list)

pub step_with-requires-clause-changes : goal.step_with-requires-clause-changes
step_with-requires-clause-changes c =
    let k = c.self.inside.kept in
    let p = newest_first k.list in
    let e : Event = record {
      who = c.args.who;
      deed = deed.CloseFinish c.args.file;
      told =
          told.LabelledDropped;
    } in
    let m : MayBy (value_of c.self.inside) c.args.pass.now.number (deed.CloseFinish c.args.file) =
    subst (λ (v : CellValue). MayBy v c.args.pass.now.number (deed.CloseFinish c.args.file)) (sym
    c.self.view_is)
    (may_from c.args.self.now c.reserve.new.self c.args.pass.now.number (deed.CloseFinish
    c.args.file) c.in_ok-reserve.ensures.list c.in_ok-reserve.ensures.same c.requires.may) in
    let sums : HasSums k.inode p c.args.sums =
    subst (λ (v : CellValue). HasSums v.inode (newest_first v.list) c.args.sums)
    (sym c.self.view_is)
    (sums_from c.args.self.now c.reserve.new.self c.args.sums c.in_ok-reserve.ensures.list
    c.in_ok-reserve.ensures.same c.requires.sums) in
    let st = c.state.ensures.kept in
    subst (λ (v : CellValue). IsChange v.inode (newest_first v.list) c.args.who (deed.CloseFinish
    c.args.file) told.LabelledDropped c.dropping-facts.result (Some c.args.sums.0))
    c.self.view_is
    (record {
      may = m.may;
      by = subst (λ (n : ℕ). IsBy n (deed.CloseFinish c.args.file) p) c.requires.number m.by;
      quiet = refl;
      told = ap (λ (n : ℕ). Some (close_finish_told n)) (sym st.counts.writers
          ∙ c.if-state-eq1.true);
      content = refl;
      attributes =
          label_of_close k.inode p c.args.file c.args.sums (collecting k.inode p) (metadata p)
          (attributes k.inode p)
          ((stages k.inode p c.state.ensures.legal.1).0 c.args.file (ap is_collecting m.may)) sums;
      facts = subst (λ (kn : Facts). AreFacts k.inode p e kn) (sym c.dropping-facts.ensures)
          (record {
            gone = c.how_at.ensures (ap is_gone m.may);
            writing = refl;
            algo = tt;
            asked =
                tt;
            sums = tt;
          });
    })
