use Rattle.std.proofs.Common.{sym}
use Rattle.std.proofs.lemmas.List.{append-nil}
use Rattle.report_text.proofs.Lines.{entry_line}
use Rattle.order_outcomes.proofs.lines.entry_line.Goals as goal

pub returns : goal.returns
returns c =
    rw (
      c.from_vec.ensures.bytes,
      c.in_ok-push_entries.ensures,
      c.new-line.ensures.items,
      c.from_ref.ensures.value,
      append-nil,
    )
    (sym (entry_line c.args.entry.now))
