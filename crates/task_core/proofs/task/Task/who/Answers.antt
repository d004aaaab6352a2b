use Rattle.std.proofs.Common.{◌≡◌, true, false, Option, None, Some, refl, sym, ap, ◌∙◌}
use Rattle.std.specs.Prelude.{is_none, option_map}
use Rattle.call_steps.specs.declared.call.Call.{Call}
use Rattle.run_model.specs.History.{call_at, who_at}
use Rattle.task_core.specs.TaskFields.{who_of}
use Rattle.task_core.proofs.task.Task.who.Goals as goal

-- the map of an absent option is absent
absent : {X W : Type 0} (o : Option X) (f : X → W) → is_none o ≡ true → None ≡ option_map f o
absent None f h = refl
absent (Some x) f h = cc

-- the map of a present option is present, whatever its value
present : {X W : Type 0} (o : Option X) (w : W) → is_none o ≡ false → Some w
    ≡ option_map (λ _. w) o
present None w h = cc
present (Some x) w h = refl

pub returns-then-is_over : goal.returns-then-is_over
returns-then-is_over c =
    let s = c.self.inside in
    let m = s.task_state in
    absent (call_at m.program m.position.call_state)
    (λ (x : Call). who_at s.number m.program m.position.call_state)
    (sym c.is_over.ensures ∙ c.if-is_over.true)
    ∙ ap who_of c.self.view_is

pub returns : goal.returns
returns c =
    let s = c.self.inside in
    let m = s.task_state in
    ap Some c.who.ensures
    ∙ present (call_at m.program m.position.call_state)
    (who_at s.number m.program m.position.call_state) (sym c.is_over.ensures ∙ c.if-is_over.false)
    ∙ ap who_of c.self.view_is
