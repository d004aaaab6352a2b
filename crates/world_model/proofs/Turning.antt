-- The turns of a list, and one turn more.
use Rattle.std.proofs.Common.{◌≡◌, ℕ, List, [], ◌∷◌, ◌++◌, refl, sym, ◌∙◌, ap}
use Rattle.run_model.specs.Scene.{Program, Scene}
use Rattle.run_model.specs.Turns.{Moment, turn, turns_of}
use Rattle.world_model.specs.WorldConsts.{WorldConsts, scene_of}
use Rattle.world_model.specs.Runs.{programs_of}
use Rattle.world_model.specs.Tasks.{Tasked}
use Rattle.world_model.specs.World.{WorldValue}
use Rattle.world_model.specs.TurnLaws.{TurnIsMore}
use Rattle.world_model.specs.WorldRuns.{SameRun, moment_in, scene_in}

-- the scene of the tasks of a world never changes
pub scene_same : (world w1 : WorldValue) (tasks t1 : List Tasked) → SameRun world w1 tasks t1
    → scene_in w1 t1 ≡ scene_in world tasks
scene_same world w1 tasks t1 s =
    ap (λ (f : WorldConsts). scene_of f (programs_of t1)) s.consts
    ∙ ap (λ (ps : List Program). scene_of world.consts ps) s.programs

-- `SameRun` is transitive
pub same_run_more : (world w1 w2 : WorldValue) (tasks t1 t2 : List Tasked)
    → SameRun world w1 tasks t1 → SameRun w1 w2 t1 t2 → SameRun world w2 tasks t2
same_run_more world w1 w2 tasks t1 t2 a b = record {
  consts = b.consts ∙ a.consts;
  programs = b.programs ∙ a.programs;
  each = b.each;
}

-- the last turn of a list comes after all others
turns_more : (scene : Scene) (m : Moment) (ns : List ℕ) (n : ℕ)
    → turns_of scene m (ns ++ n ∷ []) ≡ turn scene (turns_of scene m ns) n
turns_more scene m [] n = refl
turns_more scene m (k ∷ ns) n = turns_more scene (turn scene m k) ns n

-- proof of `TurnIsMore`
pub turn_is_more : TurnIsMore
turn_is_more world w1 w2 tasks t1 t2 turns k r h s e =
    let scene = scene_in world tasks in
    record {
      still = same_run_more world w1 w2 tasks t1 t2 h.still s;
      run = e.moment
          ∙ ap (λ (x : Scene). turn x (moment_in w1 t1) k)
          (scene_same world w1 tasks t1 h.still)
          ∙ ap (λ (m : Moment). turn scene m k) h.run
          ∙ sym (turns_more scene (moment_in world tasks) turns k);
    }
