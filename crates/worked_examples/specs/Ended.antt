-- Ends of runs in which tasks post and wait.
use Rattle.std.specs.Prelude.{◌≡◌, ℕ, true, false, List, [], ◌∷◌}
use Rattle.run_laws.specs.model.Ended.{IsEnded, is_stuck}
use Rattle.run_laws.specs.model.History.{Position, start}
use Rattle.run_laws.specs.model.Scene.{Program}
use Rattle.run_laws.specs.model.steps.declared.call.Call.TheVariants as call
use Rattle.run_laws.specs.model.steps.declared.ending.Ending.TheVariants as ending
use Rattle.worked_examples.specs.Served.{has_finished, task}

-- a task posts the semaphore 0, and another waits for this one
abbrev pub posts_and_waits : ℕ → List Program
posts_and_waits sem = task (call.Post 0 ∷ []) ∷ task (call.Wait sem ∷ []) ∷ []

-- the post is answered, and the wait isn't
abbrev pub posted : List Position
posted = has_finished ∷ start ∷ []

-- both are answered
abbrev pub both_done : List Position
both_done = has_finished ∷ has_finished ∷ []

-- how runs of these programs may end
pub record EndedExamples : Type 0 where
  -- one task is done, and one waits in vain
  pub stuck : is_stuck (posts_and_waits 1) posted ≡ true
  -- the semaphore has something left
  pub not_stuck : is_stuck (posts_and_waits 0) posted ≡ false
  -- all tasks are done
  pub done_not_stuck : is_stuck (posts_and_waits 0) both_done ≡ false
  -- rounds and threads end if the run is stuck or all tasks are done
  pub ends_stuck : IsEnded ending.Rounds (posts_and_waits 1) posted
  pub ends_done : IsEnded (ending.Threads 2) (posts_and_waits 0) both_done
  -- they don't end if the run could go on; a schedule may
  pub no_end_of_rounds : IsEnded ending.Rounds (posts_and_waits 0) posted → ⊥
  pub no_end_of_threads : IsEnded (ending.Threads 2) (posts_and_waits 0) posted → ⊥
  pub end_of_schedule : IsEnded (ending.Schedule (0 ∷ [])) (posts_and_waits 0) posted
  -- a wait that has no post isn't answered
  pub unpaid : IsEnded (ending.Schedule (1 ∷ [])) (posts_and_waits 1) both_done → ⊥
