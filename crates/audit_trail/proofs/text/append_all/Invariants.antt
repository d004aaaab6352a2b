-- the rules so far are appended
use Rattle.std.proofs.Common.{◌≡◌, ◌++◌, take}
use Rattle.world_model.specs.model.rules.Policy.{rules_in}
use Rattle.audit_trail.proofs.text.append_all.Given as goal

abbrev pub invariant-loop-entry : goal.invariant-loop-entry
invariant-loop-entry l = l.rules ≡ l.initial.rules ++ rules_in (take l.entry-index l.appended)
