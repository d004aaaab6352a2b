-- the lines of the registers so far
use Rattle.std.proofs.Common.{◌≡◌, ◌++◌}
use Rattle.text_forms.specs.Words.{text_of}
use Rattle.report_text.specs.Report.{pcr_lines_to}
use Rattle.report_text.proofs.lists.push_registers.Given as goal

abbrev pub invariant-loop-pcr : goal.invariant-loop-pcr
invariant-loop-pcr l = l.out.items ≡ l.fn.out.items ++ text_of (pcr_lines_to l.list l.banks l.pcr)
