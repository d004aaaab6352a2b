-- the lines of the inodes that are left are still to come
use Rattle.std.proofs.Common.{◌≡◌, ◌++◌, length}
use Rattle.text_forms.specs.Words.{text_of}
use Rattle.report_text.specs.Report.{all_inode_lines}
use Rattle.report_text.proofs.inodes.push_inodes_in_pieces.Given as goal

abbrev pub invariant-loop-inode : goal.invariant-loop-inode
invariant-loop-inode l = record {
  split : l.fn.inodes.items ≡ l.yielded ++ l.inode-iterator.rest.items;
  count : l.number ≡ length l.yielded;
  text : (l.out ++ l.piece.items)
      ++ text_of (all_inode_lines l.fn.default l.fn.grows l.number l.inode-iterator.rest.items)
      ≡ l.initial.out ++ text_of (all_inode_lines l.fn.default l.fn.grows 0 l.fn.inodes.items);
}
