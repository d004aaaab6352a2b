-- The rules have one more, or are as they were.
use Rattle.std.proofs.Common.{◌≡◌, ◌∙◌, ap}
use Rattle.std.proofs.lemmas.Result.{err_from_is_err_and}
use Rattle.task_core.proofs.Shares.{with_rule, with_same_rules}
use Rattle.world_model.specs.Tasks.{PassesValue}
use Rattle.task_core.proofs.world.World.append.Goals as goal

pub invariant_of-self : goal.invariant_of-self
invariant_of-self c =
    let w = c.self.inside.parts in
    let x = with_same_rules w.settings w.world_inodes.items w.supers.items w.book w.sems
    w.rules w.tasks w.spares.items c.self.invariant.parts c.self.invariant.spares c.append.new.self
    c.append.ensures.kept.0 c.in_err-append.ensures.err.0 in
    record { parts = x.0; spares = x.1 }

pub invariant_of-self-2 : goal.invariant_of-self-2
invariant_of-self-2 c =
    let w = c.self.inside.parts in
    let number : c.passes.inside.rules.number ≡ c.args.who.task =
    ap (λ (q : PassesValue). q.rules.number) c.passes.view_is ∙ c.requires.rules.1 in
    let x = with_rule w.settings w.world_inodes.items w.supers.items w.book w.sems w.rules w.tasks
    w.spares.items c.self.invariant.parts c.self.invariant.spares c.append.new.self
    (record { who = c.args.who; rule = c.args.rule.now }) c.passes.inside.rules.number
    c.append.ensures.kept c.in_ok-append.ensures.list c.in_ok-append.ensures.numbers number in
    record { parts = x.0; spares = x.1 }

pub returns-in_err-append-clause-appends : goal.returns-in_err-append-clause-appends
returns-in_err-append-clause-appends c =
    let p = err_from_is_err_and c.from_residual.result c.from_residual.ensures.1 in
    rw (p.1) tt

pub returns-in_err-append-clause-told : goal.returns-in_err-append-clause-told
returns-in_err-append-clause-told c =
    let p = err_from_is_err_and c.from_residual.result c.from_residual.ensures.1 in
    rw (p.1) tt
