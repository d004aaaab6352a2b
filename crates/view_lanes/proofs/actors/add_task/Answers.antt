use Rattle.std.proofs.Common.{◌≡◌, ◌≢◌, ◌<◌, ℕ, List, length, get_or, ap, ◌∙◌, arith}
use Rattle.std.proofs.lemmas.List.{get_or_read}
use Rattle.view_lanes.specs.Lanes.{first_from}
use Rattle.view_lanes.proofs.LanesLemmas.{inserted, stays}
use Rattle.view_lanes.proofs.actors.add_task.Goals as goal
use Rattle.view_lanes.proofs.actors.add_task.Goals.{else-at-len-via-then-at-len+else-index-task, else-at-len-via-else-at-len}

pub returns-then-index-task-clause-is : goal.returns-then-index-task-clause-is
returns-then-index-task-clause-is c =
    let ts : List ℕ = c.args.tasks.now.items in
    let is : c.first_from-at.result ≡ first_from c.args.task ts
    = c.first_from-at.ensures.is
    ∙ ap (λ (x : List ℕ). first_from c.args.task x) c.deref.ensures.value in
    let lt : c.first_from-at.result < length ts = omega arith in
    stays c.args.task c.first_from-at.result ts is lt
    (omega (arith, get_or_read ts _ _ lt c.index.ensures 0))

pub returns-clause-is : goal.returns-clause-is
returns-clause-is c =
    let ts : List ℕ = c.args.tasks.now.items in
    let is : c.first_from-at.result ≡ first_from c.args.task ts
    = c.first_from-at.ensures.is
    ∙ ap (λ (x : List ℕ). first_from c.args.task x) c.deref.ensures.value in
    let other : c.first_from-at.result < length ts
    → get_or ts c.first_from-at.result 0 ≢ c.args.task
    = λ (lt : c.first_from-at.result < length ts)
    (e : get_or ts c.first_from-at.result 0 ≡ c.args.task).
    elim c.else-at-len.branch [
      | else-at-len-via-then-at-len+else-index-task w ↦
          absurd (omega (arith, get_or_read ts _ _ lt w.index.ensures 0, e))
      | else-at-len-via-else-at-len w ↦ absurd (omega (arith, lt))
    ] in
    c.in_ok-insert.ensures.items
    ∙ inserted c.args.task c.first_from-at.result ts is other
