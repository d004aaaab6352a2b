-- In the part of the path that was read, the last component begins at `start`.
use Rattle.std.proofs.Common.{◌≡◌, ◌+◌, ◌==◌, not, take}
use Rattle.std.specs.List.{suffix_len}
use Rattle.ima_templates.proofs.shown.last_component.Given as goal

abbrev pub invariant-loop-i : goal.invariant-loop-i
invariant-loop-i l = l.start + suffix_len (λ b. not (b == 47)) (take l.i l.path) ≡ l.i
