-- Where a run on one thread stands if memory runs out.
use Rattle.std.proofs.Common.{◌≡◌, ◌<◌, ◌≤◌, ◌⊎◌, ℕ, zero, suc, true, inl, inr, List, [], ◌∷◌, ◌++◌, length, map, get_or, take, refl, sym, ◌∙◌, ap, subst, arith}
use Rattle.std.specs.Prelude.{Bool, slice_set}
use Rattle.std.proofs.Math.Seq.{map-set_same}
use Rattle.std.proofs.lemmas.Bool.{cases_lt}
use Rattle.std.proofs.lemmas.List.{length-append, length-map, take-append-le, take_all}
use Rattle.run_model.specs.Rounds.{all_tasks, any_moves, numbers}
use Rattle.run_model.specs.Scene.{Scene}
use Rattle.run_model.specs.Turns.{Moment, turns_of}
use Rattle.task_core.specs.worlds.Runs.{position_of, program_of, programs_of}
use Rattle.task_core.specs.worlds.Tasks.{Tasked}
use Rattle.task_core.specs.worlds.World.{WorldValue}
use Rattle.task_core.proofs.about_worlds.Turning.{scene_same}
use Rattle.task_core.specs.worlds.WorldRuns.{HasRounded, IsInRound, moment_in, scene_in}
use Rattle.task_runner.specs.Stops.{StopsIn, StopsInRounds}

-- the moment is as before if the lists and where the task stands are
pub moment_same : (world world2 : WorldValue) (tasks : List Tasked) (k : ℕ) (t t2 : Tasked)
    → t ≡ get_or tasks k t → world2.state ≡ world.state
    → t2.task_state.position ≡ t.task_state.position
    → moment_in world2 (slice_set tasks k t2) ≡ moment_in world tasks
moment_same world world2 tasks k t t2 there state position =
    let positions : map position_of (slice_set tasks k t2) ≡ map position_of tasks =
    map-set_same position_of tasks k t2 t
    (position ∙ ap (λ (u : Tasked). u.task_state.position) there) in
    λ i. record { state = state i; positions = positions i }

-- there are n numbers below n
length_numbers : (n : ℕ) → length (numbers n) ≡ n
length_numbers zero = refl
length_numbers (suc n) =
    omega (arith, length-append (numbers n) (n ∷ []), length_numbers n)

-- the numbers below k come first among the numbers below n
take_numbers : (n k : ℕ) → k ≤ n → take k (numbers n) ≡ numbers k
take_numbers zero zero h = refl
take_numbers zero (suc k) h = absurd (omega arith)
take_numbers (suc n) k h =
    at (cases_lt k (suc n)) (λ (l : k ≤ n). take_numbers n k l) where
      at : (k < suc n) ⊎ (suc n ≤ k) → (k ≤ n → take k (numbers n) ≡ numbers k)
          → take k (numbers n ++ n ∷ []) ≡ numbers k
      at (inl l) rest =
          take-append-le k (numbers n) (n ∷ []) (omega (arith, length_numbers n)) ∙ rest (omega arith)
      at (inr g) rest =
          let same : suc n ≡ k = omega arith in
          take_all k (numbers n ++ n ∷ []) (omega (arith, length_numbers (suc n)))
          ∙ ap (λ (m : ℕ). numbers m) same

-- a round that stops before the turn of task k
pub stops_in_round : (world w1 : WorldValue) (tasks t1 : List Tasked) (k : ℕ) (moved : Bool)
    (m : Moment) → k < length tasks → IsInRound world w1 tasks t1 k moved
    → m ≡ moment_in w1 t1
    → StopsIn (scene_in world tasks) (moment_in world tasks) (all_tasks (scene_in world tasks)) m
stops_in_round world w1 tasks t1 k moved m below h same =
    let all : length (programs_of tasks) ≡ length tasks = length-map tasks program_of in
    record {
      count = k;
      left = omega (arith, all, length_numbers (length (programs_of tasks)));
      run = same ∙ h.turned.run
          ∙ ap (λ (ns : List ℕ). turns_of (scene_in world tasks) (moment_in world tasks) ns)
          (sym (take_numbers (length (programs_of tasks)) k (omega (arith, all))));
    }

-- if one of these turns moves its task, there is a turn
some_turn : (scene : Scene) (m : Moment) (ns : List ℕ) → any_moves scene m ns ≡ true
    → 0 < length ns
some_turn scene m [] h = absurd (cc)
some_turn scene m (n ∷ ns) h = omega arith

-- rounds that stop in the next one
pub stops_in_next : (world w1 : WorldValue) (tasks t1 : List Tasked) (n : ℕ) (m : Moment)
    → HasRounded world w1 tasks t1 n
    → StopsIn (scene_in w1 t1) (moment_in w1 t1) (all_tasks (scene_in w1 t1)) m
    → StopsInRounds (scene_in world tasks) (moment_in world tasks) m
stops_in_next world w1 tasks t1 n m h next =
    let scene = scene_in world tasks in
    record {
      count = n;
      before = h.before;
      next = subst (λ (x : Moment). StopsIn scene x (all_tasks scene) m) h.run
          (subst (λ (x : Scene). StopsIn x (moment_in w1 t1) (all_tasks x) m)
          (scene_same world w1 tasks t1 h.still) next);
    }

-- rounds that stop where the next one would begin
pub stops_after : (world w1 : WorldValue) (tasks t1 : List Tasked) (n : ℕ) → 0 < n
    → HasRounded world w1 tasks t1 n
    → StopsInRounds (scene_in world tasks) (moment_in world tasks) (moment_in w1 t1)
stops_after world w1 tasks t1 n some h =
    let scene = scene_in world tasks in
    record {
      count = n;
      before = h.before;
      next = record {
        count = 0;
        left = some_turn scene (moment_in world tasks) (all_tasks scene) (h.before 0 some);
        run = h.run;
      };
    }
