use Rattle.std.proofs.lemmas.Result.{on_ok_weaker}
use Rattle.view_page.proofs.Joined.{as_parts, ◌▹◌}
use Rattle.view_tables.proofs.frame.push_counts.Goals as goal

pub returns : goal.returns
returns c =
    on_ok_weaker c.push_tile-6.result
    (λ pushed. as_parts
    (c.in_ok-push_tile.ensures ▹ c.in_ok-push_tile-2.ensures ▹ c.in_ok-push_tile-3.ensures
    ▹ c.in_ok-push_tile-4.ensures ▹ c.in_ok-push_tile-5.ensures ▹ pushed)
    (rw (← c.report.view_is) (cc (
      c.len.ensures,
      c.len-2.ensures,
      c.len-3.ensures,
      c.report.inside.entries.ok.0,
      c.report.inside.inodes.ok.0,
      c.report.inside.tasks.ok.0,
      c.refused-refused.ensures,
      c.events-events.ensures,
      c.deref.ensures.value,
      c.deref-2.ensures.value,
      c.from-violations.ensures,
    ))))
    c.push_tile-6.ensures
