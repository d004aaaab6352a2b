-- the calls so far keep their rules
use Rattle.std.proofs.Common.{take}
use Rattle.std.specs.List.{AllByRecursion}
use Rattle.script_run.specs.Run.{KeepsRule}
use Rattle.script_run.proofs.appended.calls_kept.Given as goal

abbrev pub invariant-loop-call : goal.invariant-loop-call
invariant-loop-call l = AllByRecursion KeepsRule (take l.call-index l.calls)
