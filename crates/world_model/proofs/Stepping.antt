-- A step of one task of many is a turn.
use Rattle.std.proofs.Common.{◌≡◌, ◌≢◌, ℕ, zero, suc, List, [], ◌∷◌, map, Option, Some, refl, sym, ◌∙◌, ap, subst, inl, inr}
use Rattle.std.specs.Prelude.{◌⊎◌, slice_get, slice_set}
use Rattle.std.proofs.lemmas.List.{map-set}
use Rattle.std.proofs.lemmas.Option.{same_Some, slice_get_within}
use Rattle.world_model.proofs.laws_of_runs.Owned.{set_parts}
use Rattle.run_model.specs.History.{Position}
use Rattle.run_model.specs.Rounds.{is_moved, moves_at}
use Rattle.run_model.specs.Scene.{Program, Scene}
use Rattle.run_model.specs.Turns.{Moment, Turned, step_task, turned}
use Rattle.run_model.specs.declared.turn.Turn.{Turn}
use Rattle.world_model.specs.WorldConsts.{WorldConsts}
use Rattle.world_model.specs.Runs.{AreTasks, IsNth, position_of, program_of, programs_of}
use Rattle.world_model.specs.Tasks.{IsTask, Tasked}
use Rattle.world_model.specs.World.{WorldValue}
use Rattle.world_model.proofs.Eventing.{get_map}
use Rattle.world_model.specs.TurnLaws.{StepIsTurn}
use Rattle.world_model.specs.WorldRuns.{IsTurn, KeepsTask, SameRun, StepsTaskTo, moment_in, scene_in}

-- writing an element with the same image leaves the map of a list as it was
map_same : {A B : Type 0} (f : A → B) (xs : List A) (i : ℕ) (x y : A) → slice_get xs i ≡ Some x
    → f y ≡ f x → map f (slice_set xs i y) ≡ map f xs
map_same f [] i x y h e = refl
map_same f (z ∷ xs) zero x y h e = ap (λ b. b ∷ map f xs) (e ∙ ap f (sym (same_Some z x h)))
map_same f (z ∷ xs) (suc i) x y h e = ap (λ bs. f z ∷ bs) (map_same f xs i x y h e)

module _ (world world2 : WorldValue) (tasks : List Tasked) (k : ℕ) (t t2 : Tasked)
    (all : AreTasks world.consts tasks) (there : slice_get tasks k ≡ Some t)
    (keeps : KeepsTask world world2 t t2) where
  abbrev tasks2 : List Tasked
  tasks2 = slice_set tasks k t2

  abbrev scene : Scene
  scene = scene_in world tasks

  abbrev start : Moment
  start = moment_in world tasks

  -- the tasks still belong to their world
  same_run : SameRun world world2 tasks tasks2
  same_run = record {
    consts = keeps.consts;
    programs = map_same program_of tasks k t t2 there keeps.program;
    each = record {
      each = λ j x h. at j x (set_parts tasks k j t2 x h (slice_get_within tasks k t there));
    };
  } where
    at : (j : ℕ) (x : Tasked)
        → ((j ≡ k) × (x ≡ t2)) ⊎ ((k ≢ j) × (slice_get tasks j ≡ Some x))
        → IsNth world2.consts j x
    at j x (inl e) = record {
      number = ap (λ (y : Tasked). y.number) e.1 ∙ keeps.number ∙ (all.each k t there).number
          ∙ sym e.0;
      task = subst (λ (y : Tasked). IsTask world2.consts y) (sym e.1) keeps.task;
    }
    at j x (inr e) =
        subst (λ (f : WorldConsts). IsNth f j x) (sym keeps.consts) (all.each j x e.1)

  -- the effect of the step is that of a turn of its task
  is_turn : (r : Turn) → StepsTaskTo world world2 t t2 r → IsTurn world world2 tasks tasks2 k r
  is_turn r goes = record {
    moment = sym (ap (λ (o : Option Program). turned scene start k o (slice_get start.positions k))
        program_there
        ∙ ap (λ (o : Option Position). turned scene start k (Some t.task_state.program) o)
        position_there ∙ ap (λ (x : Turned). record {
          state = x.state;
          positions = slice_set start.positions k x.position;
        }) gone
        ∙ ap (λ (ts : List Position). record { state = world2.state; positions = ts })
        (sym (map-set position_of tasks k t2)));
    moves = sym (ap (λ (o : Option Program). moves_at scene start k o
        (slice_get start.positions k)) program_there
        ∙ ap (λ (o : Option Position). moves_at scene start k (Some t.task_state.program) o)
        position_there ∙ ap (λ (x : Turned). is_moved x.turn) gone);
  } where
    program_there : slice_get scene.programs k ≡ Some t.task_state.program
    program_there = get_map program_of tasks k t there

    position_there : slice_get start.positions k ≡ Some t.task_state.position
    position_there = get_map position_of tasks k t there

    gone : step_task scene k t.task_state.program world.state t.task_state.position
        ≡ record { state = world2.state; position = t2.task_state.position; turn = r }
    gone = subst (λ (n : ℕ). step_task scene n t.task_state.program world.state
        t.task_state.position
        ≡ record { state = world2.state; position = t2.task_state.position; turn = r })
        (all.each k t there).number (goes (programs_of tasks))

-- proof of `StepIsTurn`
pub step_is_turn : StepIsTurn
step_is_turn world world2 tasks k t t2 all there keeps = (
  same_run world world2 tasks k t t2 all there keeps,
  λ r goes. is_turn world world2 tasks k t t2 all there keeps r goes,
)
