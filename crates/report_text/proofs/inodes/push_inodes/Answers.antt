use Rattle.std.proofs.Common.{refl}
use Rattle.report_text.specs.Report.{all_inode_lines, inode_lines}
use Rattle.report_events.proofs.Joins.{lines_end, lines_on}
use Rattle.report_text.proofs.inodes.push_inodes.Goals as goal

pub loop-number-preserved : goal.loop-number-preserved
loop-number-preserved c =
    lines_on (all_inode_lines c.args.default c.args.grows)
    (inode_lines c.args.default c.args.grows) (λ n x xs. refl) _ _ _
    c.args.inodes.now c.loop-number.number c.index-inodes-number.result
    c.loop-number-test.true c.index-inodes-number.is c.loop-number.invariant
    c.in_ok-push_inode.ensures

pub returns : goal.returns
returns c =
    lines_end (all_inode_lines c.args.default c.args.grows) (λ k. refl) _ _ c.args.inodes.now
    c.loop-number.number c.loop-number-test.false c.loop-number.invariant
