use Rattle.std.proofs.Common.{◌≡◌, ◌≤◌, false, nat_lt, length, Err, refl, subst, rules, arith}
use Rattle.std.proofs.lemmas.Bool.Decides.{nat_tests}
use Rattle.inode_meta.specs.declared.identity.Cred.{Cred}
use Rattle.script_words.specs.declared.fault.LineCause.TheVariants as cause
use Rattle.script_fields.specs.Limits.{most_tasks}
use Rattle.script_text.specs.Draft.{Draft}
use Rattle.script_text.specs.Tasks.{with_cred}
use Rattle.script_text.specs.contracts.draft.Draft.{the_view}
use Rattle.script_text.proofs.Memory.{out_of_memory}
use Rattle.script_text.proofs.draft.Draft.with_cred.Goals as goal

-- no task is added to the most
task_too_many : (c : Cred) (x d : Draft) → x ≡ d → most_tasks ≤ length x.script.tasks
    → with_cred c d ≡ Err cause.TooMany
unfolding with_cred
task_too_many c x d view many =
    let full : nat_lt (length x.script.tasks) most_tasks ≡ false = grind (arith, nat_tests) in
    subst (λ (y : Draft). with_cred c y ≡ Err cause.TooMany) view (rw full refl)

pub returns-then-len-ge-TASKS : goal.returns-then-len-ge-TASKS
returns-then-len-ge-TASKS c =
    let count : c.len.result ≡ length c.self.inside.tasks.items = search rules in
    task_too_many c.args.cred (the_view c.self.inside) c.args.self.now c.self.view_is
    (rw count at c.if-len-ge-TASKS.true)

pub returns-in_err-push : goal.returns-in_err-push
returns-in_err-push c = out_of_memory c.from_residual.result _ _ c.from_residual.ensures.1
