-- the lines of the replies that are left are still to come
use Rattle.std.proofs.Common.{◌≡◌, ◌++◌, drop}
use Rattle.text_forms.specs.Words.{text_of}
use Rattle.report_text.specs.Report.{reply_lines}
use Rattle.report_text.proofs.tasks.push_replies.Given as goal

abbrev pub invariant-loop-call : goal.invariant-loop-call
invariant-loop-call l =
    l.out.items ++ text_of (reply_lines l.call (drop l.call l.replies))
    ≡ l.fn.out.items ++ text_of (reply_lines 0 l.replies)
