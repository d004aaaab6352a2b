use Rattle.std.proofs.Common.{◌≡◌, ◌≤◌, false, nat_lt, Err, refl, subst, arith}
use Rattle.std.proofs.lemmas.Bool.Decides.{nat_tests}
use Rattle.call_steps.specs.declared.call.Call.{Call}
use Rattle.script_words.specs.declared.fault.LineCause.TheVariants as cause
use Rattle.script_fields.specs.Limits.{most_calls}
use Rattle.script_text.specs.Draft.{Draft}
use Rattle.script_text.specs.Tasks.{with_call}
use Rattle.script_text.specs.contracts.draft.Draft.{the_view}
use Rattle.script_text.proofs.Memory.{out_of_memory}
use Rattle.script_text.proofs.draft.Draft.with_call.Goals as goal

-- no call is added to the most
call_too_many : (c : Call) (x d : Draft) → x ≡ d → most_calls ≤ x.calls
    → with_call c d ≡ Err cause.TooMany
unfolding with_call
call_too_many c x d view many =
    let full : nat_lt x.calls most_calls ≡ false = grind (arith, nat_tests) in
    subst (λ (y : Draft). with_call c y ≡ Err cause.TooMany) view (rw full refl)

pub returns-then-self-ge-CALLS : goal.returns-then-self-ge-CALLS
returns-then-self-ge-CALLS c =
    call_too_many c.args.call (the_view c.self.inside) c.args.self.now c.self.view_is
    c.if-self-ge-CALLS.true

pub returns-in_err-call_on_last : goal.returns-in_err-call_on_last
returns-in_err-call_on_last c =
    out_of_memory c.from_residual.result _ _ c.from_residual.ensures.1
