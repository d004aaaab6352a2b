use Rattle.std.proofs.Common.{◌≡◌, ◌∙◌, sym, ap, subst}
use Rattle.inode_events.specs.Checks.{last_check}
use Rattle.inode_events.specs.Integrity.{collecting}
use Rattle.inode_events.specs.NewestFirst.{newest_first}
use Rattle.inode_events.specs.Stage.{is_collecting, stage}
use Rattle.inode_state.specs.Collecting.{IsAsked}
use Rattle.inode_state.proofs.laws_of_journals.Stages.{Collects as CollectsFile, stages}
use Rattle.inode_cell.specs.Granting.{Collects, collected_stage}
use Rattle.inode_cell.specs.Value.{CellValue}
use Rattle.inode_cell.proofs.GrantLemmas.{asked_of_open, asked_there}
use Rattle.inode_cell.proofs.cell.InodeCell.asked_for.Goals as goal

pub unreachable-requires : goal.unreachable-requires
unreachable-requires c =
    let k = c.self.inside.kept in
    let p = newest_first k.list in
    let at : stage k.inode c.args.file p ≡ collected_stage = subst (λ (v : CellValue). stage v.inode
    c.args.file (newest_first v.list) ≡ collected_stage) (sym c.self.view_is) c.requires.stage in
    asked_there k.inode c.args.file p c.state.result.now.collecting (collecting k.inode p)
    c.state.ensures.kept.collecting
    ((stages k.inode p c.state.ensures.legal.1).0 c.args.file (ap is_collecting at))
    (stages k.inode p c.state.ensures.legal.1).1 at (sym c.asked_in.ensures ∙ c.in-None.is)

pub returns : goal.returns
returns c =
    let k = c.self.inside.kept in
    let p = newest_first k.list in
    let at : stage k.inode c.args.file p ≡ collected_stage = subst (λ (v : CellValue). stage v.inode
    c.args.file (newest_first v.list) ≡ collected_stage) (sym c.self.view_is) c.requires.stage in
    let open_is : CollectsFile c.args.file (collecting k.inode p) =
    (stages k.inode p c.state.ensures.legal.1).0 c.args.file (ap is_collecting at) in
    record {
      asked = subst (λ (v : CellValue). IsAsked (last_check c.args.file (newest_first v.list))
          c.in-Some.asked) c.self.view_is
          (asked_of_open c.args.file p c.state.result.now.collecting (collecting k.inode p)
          c.state.ensures.kept.collecting open_is c.state.ensures.kept.asked c.in-Some.asked
          (sym c.asked_in.ensures ∙ c.in-Some.is));
      collects = subst (λ (v : CellValue). Collects c.args.file
          (collecting v.inode (newest_first v.list))) c.self.view_is open_is;
    }
