-- The workers so far have the callers and the passes so far.
use Rattle.std.proofs.Common.{◌≡◌, map}
use Rattle.report_text.specs.model.growing.Shown.{Passed}
use Rattle.script_text.specs.steps.templates.declared.entry.Entry.{Entry}
use Rattle.buffer_measure.specs.Workers.{caller_of, pass_of}
use Rattle.buffer_text.specs.Text.{CallerValue}
use Rattle.buffer_measure.proofs.workers.workers_of.Given as goal

abbrev pub invariant-loop-caller : goal.invariant-loop-caller
invariant-loop-caller l = record {
  callers : map caller_of l.workers.items
      ≡ map (λ (p : CallerValue × Passed Entry). p.0) l.yielded;
  passes : map pass_of l.workers.items
      ≡ map (λ (p : CallerValue × Passed Entry). p.1) l.yielded;
}
