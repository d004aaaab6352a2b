-- Where a run on one thread stops if memory runs out.
use Rattle.std.specs.Prelude.{◌≡◌, ℕ, ◌<◌, true, List, length, take}
use Rattle.run_model.specs.Rounds.{all_tasks, round_moves, rounds}
use Rattle.run_model.specs.Scene.{Scene}
use Rattle.run_model.specs.Turns.{Moment, turns_of}

-- the moment after some first turns of the list, at least one of which is left
pub record StopsIn (scene : Scene) (start : Moment) (turns : List ℕ) (m : Moment) : Type 0 where
  pub count : ℕ
  pub left : count < length turns
  pub run : m ≡ turns_of scene start (take count turns)

-- the moment after some rounds, each of which moved a task, and some first turns of the next round
pub record StopsInRounds (scene : Scene) (start m : Moment) : Type 0 where
  pub count : ℕ
  pub before : (k : ℕ) → k < count → round_moves scene (rounds scene k start) ≡ true
  pub next : StopsIn scene (rounds scene count start) (all_tasks scene) m
