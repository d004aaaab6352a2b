-- the lines of the calls so far, whose rules are read again
use Rattle.std.proofs.Common.{◌≡◌, ◌++◌, map, take}
use Rattle.std.specs.List.{AllByRecursion, flat_map}
use Rattle.call_lines.specs.Lines.{line_text}
use Rattle.call_lines.specs.Rules.{HasReadRule}
use Rattle.call_lines.specs.Calls.{call_line}
use Rattle.script_print.proofs.calls.push_calls.Given as goal

abbrev pub invariant-loop-call : goal.invariant-loop-call
invariant-loop-call l = record {
  text : l.out.items ≡ l.fn.out.items
      ++ flat_map (λ c. line_text (call_line (map (λ p. p.now) l.paths) c))
      (take l.call-index l.calls);
  read : AllByRecursion HasReadRule (take l.call-index l.calls);
}
