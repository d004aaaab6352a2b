-- the lines of the inodes that are left are still to come
use Rattle.std.proofs.Common.{◌≡◌, ◌++◌, drop}
use Rattle.text_forms.specs.Words.{text_of}
use Rattle.report_text.specs.Report.{all_inode_lines}
use Rattle.report_text.proofs.inodes.push_inodes.Given as goal

abbrev pub invariant-loop-number : goal.invariant-loop-number
invariant-loop-number l =
    l.out.items ++ text_of (all_inode_lines l.default l.grows l.number (drop l.number l.inodes))
    ≡ l.fn.out.items ++ text_of (all_inode_lines l.default l.grows 0 l.inodes)
