-- The steps of a task on inodes, from its history.
use Rattle.std.specs.Prelude.{◌≡◌, ℕ, List, [], ◌∷◌, ◌++◌, Option, Some, slice_get}
use Rattle.inode_meta.specs.declared.appraisal.Mode.{Mode}
use Rattle.inode_meta.specs.declared.step.Who.{Who}
use Rattle.inode_events.specs.declared.deed.Deed.TheVariants as deed
use Rattle.run_model.specs.steps.CallState.{Step}
use Rattle.run_model.specs.steps.CallState.{Does, Checks}
use Rattle.run_model.specs.History.{Answer, Position, position, step_at, who_at}
use Rattle.run_model.specs.Scene.{Program, Scene, mode_of}
use Rattle.run_model.specs.Served.{Run, Served}
use Rattle.run_laws.specs.Steps.{Made, Rises, made_of}

-- the event of a step, if the step makes one on an inode
abbrev pub logged : Who → Option Step → Answer → List Made
logged who (Some (Does i d)) a = made_of i a.place who d a.told ∷ []
logged who (Some (Checks i file func mask)) a =
    made_of i a.place who (deed.Check file func a.action a.rules) a.told ∷ []
logged who _ a = []

-- the events of a history on all inodes, newest first
abbrev pub log : Mode → ℕ → Program → List Answer → List Made
log mode n p [] = []
log mode n p (a ∷ before) =
    let m = (position mode p before).call_state in
    logged (who_at n p m) (step_at p m) a ++ log mode n p before

-- the places rise along the steps of each task
abbrev pub RiseServed : (scene : Scene) (run : Run) → Served scene run → Type 0
RiseServed scene run s = (n : ℕ) (p : Program) (t : Position)
    (a : slice_get scene.programs n ≡ Some p) (b : slice_get run.positions n ≡ Some t)
    → Rises (log (mode_of scene) n p (s.tasks n p t a b).history)
