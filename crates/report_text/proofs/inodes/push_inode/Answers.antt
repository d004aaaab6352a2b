use Rattle.std.proofs.Common.{◌≡◌, ap}
use Rattle.inode_events.specs.EndedInode.{EndedInodeValue}
use Rattle.report_text.proofs.Pushed.{inode_pushed}
use Rattle.report_events.proofs.Joins.{when_ok}
use Rattle.report_text.proofs.inodes.push_inode.Goals as goal

pub returns : goal.returns
returns c =
    let i = c.args.inode.now in
    let journal_is : c.inode.inside.journal.items ≡ i.journal =
    ap (λ (v : EndedInodeValue). v.journal) c.inode.view_is in
    let attrs_is : c.inode.inside.attrs ≡ i.attrs =
    ap (λ (v : EndedInodeValue). v.attrs) c.inode.view_is in
    let force_is : c.inode.inside.force ≡ i.force =
    ap (λ (v : EndedInodeValue). v.force) c.inode.view_is in
    when_ok c.push_events.result c.push_events.ensures
    (λ pushed. rw (
      pushed,
      c.in_ok-extend_from_slice.ensures.items,
      c.in_ok-push_numbered.ensures,
      c.in_ok-push_attrs.ensures,
      c.in_ok-push_force.ensures,
      c.in_ok-push_head.ensures,
      c.as_slice-journal.ensures.value,
      journal_is,
      attrs_is,
      force_is,
    )
    (inode_pushed c.args.out.now.items c.args.default c.args.grows c.args.number i))
