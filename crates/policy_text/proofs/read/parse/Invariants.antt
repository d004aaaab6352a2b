use Rattle.std.proofs.Common.{◌≡◌, ◌+◌, length, drop}
use Rattle.text_forms.specs.Lines.{lines, from_lines}
use Rattle.policy_text.specs.Grammar.{fault_at, with_line, policy_of}
use Rattle.policy_text.proofs.read.parse.Given as goal

abbrev pub invariant-loop-i : goal.invariant-loop-i
invariant-loop-i l = from_lines fault_at with_line (length l.yielded + 1) l.policy
    (drop (length l.yielded) (lines l.text)) ≡ policy_of l.text
