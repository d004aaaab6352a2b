-- Turns of a round, and rounds.
use Rattle.std.proofs.Common.{◌≡◌, ℕ, suc, Bool, true, false, List, [], ◌∷◌, ◌++◌, add-one, refl, sym, ◌∙◌, ap, subst, below_more}
use Rattle.std.specs.Prelude.{◌||◌}
use Rattle.std.proofs.lemmas.List.{length-map}
use Rattle.run_model.proofs.Idle.{idle_round}
use Rattle.run_model.specs.Rounds.{all_tasks, any_moves, is_moved, moves, numbers, round_moves, rounds}
use Rattle.run_model.specs.Scene.{Scene}
use Rattle.run_model.specs.Turns.{Moment, turn, turns_of}
use Rattle.run_model.specs.declared.turn.Turn.{Turn}
use Rattle.world_model.specs.Runs.{program_of}
use Rattle.world_model.specs.Tasks.{Tasked}
use Rattle.world_model.specs.World.{WorldValue}
use Rattle.world_model.proofs.Turning.{same_run_more, scene_same, turn_is_more}
use Rattle.world_model.specs.TurnLaws.{RoundIsMore, RoundIsWhole, RoundsAreOver, TurnInRound}
use Rattle.world_model.specs.WorldRuns.{IsInRound, IsTurn, SameRun, moment_in, scene_in}

-- `false` is neutral on the right of `||`
or_false : (b : Bool) → (b || false) ≡ b
or_false true = refl
or_false false = refl

-- `||` is associative
or_assoc : (a b c : Bool) → ((a || b) || c) ≡ (a || (b || c))
or_assoc true b c = refl
or_assoc false b c = refl

-- a list of turns with one more moves exactly if the list or the last turn does
any_more : (scene : Scene) (m : Moment) (ns : List ℕ) (n : ℕ)
    → any_moves scene m (ns ++ n ∷ [])
    ≡ (any_moves scene m ns || moves scene (turns_of scene m ns) n)
any_more scene m [] n = or_false (moves scene m n)
any_more scene m (k ∷ ns) n =
    ap (λ (b : Bool). moves scene m k || b) (any_more scene (turn scene m k) ns n)
    ∙ sym (or_assoc (moves scene m k) (any_moves scene (turn scene m k) ns)
    (moves scene (turns_of scene (turn scene m k) ns) n))

-- the turn of task k extends a round of the tasks below k
in_round : (world w1 w2 : WorldValue) (tasks t1 t2 : List Tasked) (k : ℕ) (moved : Bool)
    (r : Turn) → IsInRound world w1 tasks t1 k moved → SameRun w1 w2 t1 t2
    → IsTurn w1 w2 t1 t2 k r → IsInRound world w2 tasks t2 (suc k) (moved || is_moved r)
in_round world w1 w2 tasks t1 t2 k moved r h s e =
    let scene = scene_in world tasks in
    let start = moment_in world tasks in
    record {
      turned = turn_is_more world w1 w2 tasks t1 t2 (numbers k) k r h.turned s e;
      moves = ap (λ (b : Bool). b || is_moved r) h.moves
          ∙ ap (λ (b : Bool). any_moves scene start (numbers k) || b)
          (e.moves
          ∙ ap (λ (x : Scene). moves x (moment_in w1 t1) k)
          (scene_same world w1 tasks t1 h.turned.still)
          ∙ ap (λ (m : Moment). moves scene m k) h.turned.run)
          ∙ sym (any_more scene start (numbers k) k);
    }

-- proof of `TurnInRound`
pub turn_in_round : TurnInRound
turn_in_round world w1 w2 tasks t1 t2 k moved r h s e =
    subst (λ (n : ℕ). IsInRound world w2 tasks t2 n (moved || is_moved r)) (sym (add-one k))
    (in_round world w1 w2 tasks t1 t2 k moved r h s e)

-- proof of `RoundIsWhole`
pub round_is_whole : RoundIsWhole
round_is_whole world world2 tasks tasks2 moved h =
    let scene = scene_in world tasks in
    let start = moment_in world tasks in
    record {
      moment = h.turned.run
          ∙ ap (λ (n : ℕ). turns_of scene start (numbers n)) (sym (length-map tasks program_of));
      moves = h.moves
          ∙ ap (λ (n : ℕ). any_moves scene start (numbers n)) (sym (length-map tasks program_of));
    }

-- proof of `RoundIsMore`
pub round_is_more : RoundIsMore
round_is_more world w1 w2 tasks t1 t2 n h s e =
    let scene = scene_in world tasks in
    let start = moment_in world tasks in
    let same : scene_in w1 t1 ≡ scene = scene_same world w1 tasks t1 h.still in
    record {
      still = same_run_more world w1 w2 tasks t1 t2 h.still s;
      run = e.moment
          ∙ ap (λ (x : Scene). turns_of x (moment_in w1 t1) (all_tasks x)) same
          ∙ ap (λ (m : Moment). turns_of scene m (all_tasks scene)) h.run
          ∙ ap (λ (k : ℕ). rounds scene k start) (sym (add-one n));
      before = below_more (λ (k : ℕ). round_moves scene (rounds scene k start) ≡ true) n h.before
          (sym (e.moves
          ∙ ap (λ (x : Scene). round_moves x (moment_in w1 t1)) same
          ∙ ap (λ (m : Moment). round_moves scene m) h.run));
    }

-- proof of `RoundsAreOver`
pub rounds_are_over : RoundsAreOver
rounds_are_over world w1 w2 tasks t1 t2 n h s e =
    let scene = scene_in world tasks in
    let last = moment_in w1 t1 in
    let same : scene_in w1 t1 ≡ scene = scene_same world w1 tasks t1 h.still in
    let quiet : round_moves scene last ≡ false =
    sym (e.moves ∙ ap (λ (x : Scene). round_moves x last) same) in
    let stays : moment_in w2 t2 ≡ last =
    e.moment ∙ ap (λ (x : Scene). turns_of x last (all_tasks x)) same
    ∙ idle_round scene last quiet in
    record {
      count = n;
      ends = stays ∙ h.run;
      still = ap (λ (m : Moment). round_moves scene m) stays ∙ quiet;
      before = h.before;
    }
