-- Each worker has the next caller and the next pass. All callers and all passes were taken, since
-- there are as many of each.
use Rattle.std.proofs.Common.{◌∙◌}
use Rattle.std.proofs.lemmas.Iterator.{YieldsList-from_zip}
use Rattle.std.proofs.lemmas.Iterator.Adapters.{YieldsList-from_vec}
use Rattle.std.proofs.lemmas.Iterator.Consumers.{YieldsList-end}
use Rattle.report_text.specs.model.growing.Shown.{Passed}
use Rattle.script_text.specs.steps.templates.declared.entry.Entry.{Entry}
use Rattle.buffer_text.specs.Text.{CallerValue}
use Rattle.buffer_measure.specs.Workers.{caller_of, pass_of}
use Rattle.buffer_measure.proofs.Lists.{firsts, mapped_alike, seconds}
use Rattle.buffer_measure.proofs.workers.workers_of.Goals as goal

pub loop-caller-preserved : goal.loop-caller-preserved
loop-caller-preserved c = record {
  callers = mapped_alike caller_of (λ (p : CallerValue × Passed Entry). p.0)
      c.loop-caller.workers.items c.push.new.self.items c.loop-caller.yielded c.worker_of.result
      (c.in-Some.caller, c.in-Some.pass) c.in_ok-push.ensures.items c.loop-caller.invariant.callers
      c.worker_of.ensures.caller;
  passes = mapped_alike pass_of (λ (p : CallerValue × Passed Entry). p.1)
      c.loop-caller.workers.items c.push.new.self.items c.loop-caller.yielded c.worker_of.result
      (c.in-Some.caller, c.in-Some.pass) c.in_ok-push.ensures.items c.loop-caller.invariant.passes
      c.worker_of.ensures.pass;
}

pub returns-clause-callers : goal.returns-clause-callers
returns-clause-callers c =
    let t = YieldsList-end
    (YieldsList-from_zip
    (YieldsList-from_vec c.args.callers.items (cc) (cc))
    (YieldsList-from_vec c.args.passes.items (cc) (cc)))
    c.loop-caller.yielded c.loop-caller.caller-iterator c.loop-caller.yielded_by c.next.result
    c.next.new.self c.in-None.is c.next.ensures.steps in
    c.loop-caller.invariant.callers
    ∙ firsts c.args.callers.items c.args.passes.items c.loop-caller.yielded c.requires t.0

pub returns-clause-passes : goal.returns-clause-passes
returns-clause-passes c =
    let t = YieldsList-end
    (YieldsList-from_zip
    (YieldsList-from_vec c.args.callers.items (cc) (cc))
    (YieldsList-from_vec c.args.passes.items (cc) (cc)))
    c.loop-caller.yielded c.loop-caller.caller-iterator c.loop-caller.yielded_by c.next.result
    c.next.new.self c.in-None.is c.next.ensures.steps in
    c.loop-caller.invariant.passes
    ∙ seconds c.args.callers.items c.args.passes.items c.loop-caller.yielded c.requires t.0
