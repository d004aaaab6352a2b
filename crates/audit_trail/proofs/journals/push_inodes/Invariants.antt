-- the records of the inodes that are left are still to come
use Rattle.std.proofs.Common.{◌≡◌, ◌+◌, ◌≤◌, ◌++◌, drop, length, vec_len}
use Rattle.world_model.specs.model.events.forms.Words.{text_of}
use Rattle.audit_trail.specs.Sites.{lines_from}
use Rattle.audit_trail.proofs.journals.push_inodes.Given as goal

abbrev pub invariant-loop-number : goal.invariant-loop-number
invariant-loop-number l = record {
  text : l.out.items ++ text_of (lines_from l.context l.number (drop l.number l.inodes))
      ≡ l.initial.out.items ++ text_of (lines_from l.context 0 l.inodes);
  count : l.count + length (lines_from l.context l.number (drop l.number l.inodes))
      ≡ length (lines_from l.context 0 l.inodes);
  grows : vec_len l.initial.out + l.count ≤ vec_len l.out;
}
