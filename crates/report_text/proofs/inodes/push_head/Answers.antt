use Rattle.std.proofs.Common.{◌≡◌, ap, codes}
use Rattle.report_events.specs.Numerals.{numeral}
use Rattle.inode_events.specs.EndedInode.{EndedInodeValue}
use Rattle.report_text.proofs.Pushed.{inode_head_pushed}
use Rattle.report_events.proofs.Joins.{last_pushed}
use Rattle.report_text.proofs.inodes.push_head.Goals as goal

pub returns : goal.returns
returns c =
    let i = c.args.inode.now in
    let path_is : c.inode.inside.path ≡ i.path =
    ap (λ (v : EndedInodeValue). v.path) c.inode.view_is in
    let writers_are : c.inode.inside.writers ≡ i.writers =
    ap (λ (v : EndedInodeValue). v.writers) c.inode.view_is in
    let readers_are : c.inode.inside.readers ≡ i.readers =
    ap (λ (v : EndedInodeValue). v.readers) c.inode.view_is in
    let execs_are : c.inode.inside.execs ≡ i.execs =
    ap (λ (v : EndedInodeValue). v.execs) c.inode.view_is in
    last_pushed c.extend_from_slice-3.result c.push_numbered-4.new.out.items (codes "\n")
    c.extend_from_slice-3.new.self.items c.extend_from_slice-3.ensures.items
    (λ pushed. rw (
      pushed,
      c.in_ok-push_numbered-4.ensures,
      c.in_ok-push_numbered-3.ensures,
      c.in_ok-push_numbered-2.ensures,
      c.in_ok-extend_from_slice-2.ensures.items,
      c.as_slice.ensures.bytes,
      c.in_ok-extend_from_slice.ensures.items,
      c.in_ok-push_numbered.ensures,
      path_is,
      writers_are,
      readers_are,
      execs_are,
    )
    (inode_head_pushed c.args.out.now.items (numeral c.args.number) i.path (numeral i.writers)
    (numeral i.readers) (numeral i.execs)))
