-- Rounds of all tasks, and the run of a script.
use Rattle.std.specs.Prelude.{◌≡◌, ℕ, zero, suc, ◌<◌, ◌++◌, ◌||◌, Bool, true, false, List, [], ◌∷◌, length, Option, Some, slice_get}
use Rattle.run_model.specs.History.{Position}
use Rattle.run_model.specs.Served.{Run}
use Rattle.run_model.specs.Scene.{Program, Scene}
use Rattle.run_model.specs.Turns.{Moment, run_at, start_of, step_task, turn, turns_of}
use Rattle.call_steps.specs.declared.ending.Ending.{Ending}
use Rattle.call_steps.specs.declared.ending.Ending.TheVariants as ending
use Rattle.run_model.specs.declared.turn.Turn.{Turn}
use Rattle.run_model.specs.declared.turn.Turn.TheVariants as turns

-- the numbers below n
abbrev pub numbers : ℕ → List ℕ
numbers zero = []
numbers (suc n) = numbers n ++ n ∷ []

abbrev pub is_moved : Turn → Bool
is_moved turns.Moved = true
is_moved _ = false

abbrev pub moves_at : Scene → Moment → ℕ → Option Program → Option Position → Bool
moves_at scene m n (Some p) (Some t) = is_moved (step_task scene n p m.state t).turn
moves_at scene m n _ _ = false

-- a turn of task n moves it
abbrev pub moves : Scene → Moment → ℕ → Bool
moves scene m n = moves_at scene m n (slice_get scene.programs n) (slice_get m.positions n)

-- at least one of these turns moves its task
abbrev pub any_moves : Scene → Moment → List ℕ → Bool
any_moves scene m [] = false
any_moves scene m (n ∷ ns) = moves scene m n || any_moves scene (turn scene m n) ns

-- the numbers of all tasks, in order
abbrev pub all_tasks : Scene → List ℕ
all_tasks scene = numbers (length scene.programs)

abbrev pub round_moves : Scene → Moment → Bool
round_moves scene m = any_moves scene m (all_tasks scene)

abbrev pub rounds : Scene → ℕ → Moment → Moment
rounds scene zero m = m
rounds scene (suc n) m = turns_of scene (rounds scene n m) (all_tasks scene)

-- rounds from the start until one moves no task; there is at most one such end
pub record RoundsTo (scene : Scene) (start end : Moment) : Type 0 where
  pub count : ℕ
  pub ends : end ≡ rounds scene count start
  pub still : round_moves scene end ≡ false
  pub before : (k : ℕ) → k < count → round_moves scene (rounds scene k start) ≡ true

-- the run of a script; with threads it isn't determined
abbrev pub IsRunOf : Scene → Ending → Run → Type 0
IsRunOf scene (ending.Schedule turns) run =
    run ≡ run_at (turns_of scene (start_of scene) turns)
IsRunOf scene ending.Rounds run =
    (end : Moment) × (RoundsTo scene (start_of scene) end × (run ≡ run_at end))
IsRunOf scene (ending.Threads n) run = Unit {0}
