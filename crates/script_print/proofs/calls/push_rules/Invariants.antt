-- the lines of the rules so far, each of which is read again
use Rattle.std.proofs.Common.{◌≡◌, ◌++◌, take}
use Rattle.std.specs.List.{AllByRecursion, flat_map}
use Rattle.call_lines.specs.Lines.{line_text}
use Rattle.call_lines.specs.Rules.{IsReadRule}
use Rattle.script_spelling.specs.Spelling.{rule_line}
use Rattle.script_print.proofs.calls.push_rules.Given as goal

abbrev pub invariant-loop-rule : goal.invariant-loop-rule
invariant-loop-rule l = record {
  text : l.out.items ≡ l.fn.out.items
      ++ flat_map (λ r. line_text (rule_line r)) (take l.rule-index l.rules);
  read : AllByRecursion IsReadRule (take l.rule-index l.rules);
}
