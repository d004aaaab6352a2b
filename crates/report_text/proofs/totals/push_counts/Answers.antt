use Rattle.std.proofs.Common.{◌≡◌, ap, codes}
use Rattle.std.specs.Prelude.{not}
use Rattle.report_events.specs.Numerals.{numeral}
use Rattle.run_model.specs.EndedValue.{EndedValue}
use Rattle.report_text.specs.Summary.{event_count, is_ok_reply, reply_count}
use Rattle.report_text.proofs.Summed.{counts_pushed}
use Rattle.report_events.proofs.Joins.{last_pushed}
use Rattle.report_text.proofs.totals.push_counts.Goals as goal

pub returns : goal.returns
returns c =
    let e = c.args.e.now in
    let inodes_are : c.e.inside.inodes.items ≡ e.inodes =
    ap (λ (v : EndedValue). v.inodes) c.e.view_is in
    let tasks_are : c.e.inside.tasks.items ≡ e.tasks = ap (λ (v : EndedValue). v.tasks) c.e.view_is
    in
    last_pushed c.extend_from_slice.result c.push_sum-3.new.out.items (codes "\n")
    c.extend_from_slice.new.self.items c.extend_from_slice.ensures.items
    (λ pushed. rw (
      pushed,
      c.in_ok-push_sum-3.ensures,
      c.in_ok-push_sum-2.ensures,
      c.in_ok-push_sum.ensures,
      c.count_events.ensures,
      c.count_replies-replies.ensures.ok,
      c.count_replies-replies.ensures.refused,
      c.as_slice.ensures.value,
      c.as_slice-2.ensures.value,
      inodes_are,
      tasks_are,
    )
    (counts_pushed c.args.out.now.items (numeral (event_count e.inodes))
    (numeral (reply_count is_ok_reply e.tasks))
    (numeral (reply_count (λ r. not (is_ok_reply r)) e.tasks))))
