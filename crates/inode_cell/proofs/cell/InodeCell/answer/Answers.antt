-- Each part of the grant is the one that the journal defines.
use Rattle.std.proofs.Common.{ap, ◌∙◌}
use Rattle.inode_events.specs.Grants.{admits, mends, placed_if_measured}
use Rattle.inode_events.specs.NewestFirst.{newest_first}
use Rattle.inode_cell.specs.Value.{CellValue}
use Rattle.inode_cell.proofs.cell.InodeCell.answer.Goals as goal

pub returns : goal.returns
returns c = λ check placed is.
    let v = c.args.self.now in
    let p = newest_first v.list in
    let digest = c.args.digest.now in
    let act = is.action in
    let verdict_is = c.verdict_for-verdict.ensures check is in
    let settings_is = c.settings.ensures ∙ ap (λ (v : CellValue). v.inode.settings) c.self.view_is in
    let admitted = c.admits-admitted.ensures ∙ (λ j. admits (settings_is j).mode (verdict_is j)) in
    let labelled = c.mends-labelled.ensures
    ∙ (λ j. mends v.inode (act j) digest (verdict_is j) p) in
    λ j. record {
      placed = placed_if_measured (act j) placed;
      verdict = verdict_is j;
      admitted = admitted j;
      labelled = labelled j;
    }
