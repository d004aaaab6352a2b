-- the lines of the rules that are left are still to come
use Rattle.std.proofs.Common.{◌≡◌, ◌+◌, ◌++◌, drop}
use Rattle.text_forms.specs.Words.{text_of}
use Rattle.report_text.specs.Report.{rule_lines}
use Rattle.report_text.proofs.lists.push_rules.Given as goal

abbrev pub invariant-loop-place : goal.invariant-loop-place
invariant-loop-place l =
    l.out.items ++ text_of (rule_lines (l.base + l.place) (drop l.place l.rules))
    ≡ l.fn.out.items ++ text_of (rule_lines l.base l.rules)
