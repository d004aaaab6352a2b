use Rattle.std.proofs.Common.{◌≡◌, suc, ◌-◌, ◌+◌, ◌++◌, codes, ap, ◌∙◌, append_assoc, arith}
use Rattle.load_gen.specs.Script.{groups}
use Rattle.load_gen.proofs.Loops.{ended, no_tasks, piece_on, tasks_text}
use Rattle.load_gen.proofs.text.push_tasks.Goals as goal

pub loop-task-preserved : goal.loop-task-preserved
loop-task-preserved c =
    let t = c.loop-task.task in
    let x = c.loop-task.draws.state in
    let n = 16 - (t + 1) in
    let less : 16 - t ≡ suc n = omega (arith, c.loop-task-test.true) in
    let head = codes "task uid=0 euid=0 gid=0 egid=0 admin\n" in
    rw c.in_ok-push_groups.ensures.state
    (piece_on _ _ _ (head ++ (groups 64 t x).text) _ _ (tasks_text (16 - t) n t x less)
    c.loop-task.invariant
    (c.in_ok-push_groups.ensures.text
    ∙ ap (λ l. l ++ (groups 64 t x).text) c.in_ok-extend_from_slice.ensures.items
    ∙ append_assoc c.loop-task.out.items head (groups 64 t x).text))

pub returns : goal.returns
returns c =
    let t = c.loop-task.task in
    let none : 16 - t ≡ 0 = omega arith in
    ended _ _ _ (no_tasks (16 - t) t c.loop-task.draws.state none) c.loop-task.invariant
