use Rattle.audit_trail.proofs.Printing.{front_pushed, last_pushed}
use Rattle.audit_trail.proofs.records.push_front.Goals as goal

pub returns : goal.returns
returns c =
    last_pushed c.extend_from_slice-2.result c.extend_from_slice.new.self.items
    c.as_slice.result.now c.extend_from_slice-2.new.self.items c.extend_from_slice-2.ensures.items
    (λ pushed. rw (
      pushed,
      c.as_slice.ensures.bytes,
      c.in_ok-extend_from_slice.ensures.items,
      c.in_ok-push_numbers-2.ensures,
      c.in_ok-push_place.ensures,
      c.in_ok-push_numbers.ensures,
    )
    (front_pushed c.args.out.now.items c.args.word.now c.args.site.now.number c.args.place
    c.args.who c.args.line c.args.site.now.file.now.path))
