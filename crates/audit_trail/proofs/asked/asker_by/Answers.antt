use Rattle.std.proofs.Common.{◌≡◌, ℕ, List, Some, None, sym, ◌∙◌, ap}
use Rattle.std.specs.Prelude.{slice_get}
use Rattle.std.proofs.lemmas.Option.{slice_get-get_or, slice_get_past}
use Rattle.script_scene.specs.Scene.{program_of}
use Rattle.world_model.specs.model.steps.declared.call.Call.{Call}
use Rattle.audit_trail.specs.Asked.{asker_by}
use Rattle.audit_trail.proofs.asked.asker_by.Goals as goal

pub returns-in-Some : goal.returns-in-Some
returns-in-Some c =
    let found = c.in-Some.ensures.lookup in
    let there : slice_get c.args.task.now.calls c.args.call ≡ Some c.in-Some.call.now =
    ap (λ (cs : List Call). slice_get cs c.args.call) (sym c.as_slice.ensures)
    ∙ slice_get-get_or c.as_slice.result.now c.args.call c.in-Some.call.now found.3.0
    ∙ ap (λ (x : Call). Some x) (sym found.1) in
    ap (λ (mask : ℕ). Some (c.args.task.now.cred, mask)) c.mask_of.ensures
    ∙ sym (ap (asker_by (program_of c.args.task.now)) there)

pub returns-in-None : goal.returns-in-None
returns-in-None c =
    let gone : slice_get c.args.task.now.calls c.args.call ≡ None =
    ap (λ (cs : List Call). slice_get cs c.args.call) (sym c.as_slice.ensures)
    ∙ slice_get_past c.as_slice.result.now c.args.call c.in-None.ensures.lookup.3 in
    sym (ap (asker_by (program_of c.args.task.now)) gone)
