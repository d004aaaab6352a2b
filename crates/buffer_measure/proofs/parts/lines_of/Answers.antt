use Rattle.std.proofs.Common.{sym}
use Rattle.report_text.proofs.Pushed.{entries_text}
use Rattle.buffer_measure.proofs.parts.lines_of.Goals as goal

pub returns : goal.returns
returns c =
    rw (c.in_ok-push_entries.ensures, c.in_ok-text.ensures.items, c.as_slice-list.ensures.value)
    (sym (entries_text c.args.entries.items))
