-- The possible states of a run at its end.
use Rattle.std.specs.Prelude.{◌≡◌, ℕ, ◌+◌, ◌-◌, ◌≤◌, ◌==◌, Bool, true, false, ◌&&◌, ◌||◌, not, List, [], ◌∷◌, length, take, Option, Some, slice_get, if◌then◌else◌}
use Rattle.call_steps.specs.declared.call.Call.{Call}
use Rattle.call_steps.specs.declared.call.Call.TheVariants as call
use Rattle.run_model.specs.History.{Position}
use Rattle.run_model.specs.Scene.{Program}
use Rattle.call_steps.specs.declared.ending.Ending.{Ending}
use Rattle.call_steps.specs.declared.ending.Ending.TheVariants as ending

-- ---- the semaphores, by the replies

abbrev pub posts_to : ℕ → Call → Bool
posts_to sem (call.Post other) = other == sem
posts_to sem _ = false

abbrev pub waits_for : ℕ → Call → Bool
waits_for sem (call.Wait other) = other == sem
waits_for sem _ = false

abbrev pub how_many : (Call → Bool) → List Call → ℕ
how_many test [] = 0
how_many test (c ∷ cs) = if test c then 1 + how_many test cs else how_many test cs

-- the calls of the task that are answered
abbrev pub answered : Program → Position → List Call
answered p t = take (length t.replies) p.calls

-- the number of answered calls, of all tasks, that pass the test
abbrev pub answered_by : (Call → Bool) → List Program → List Position → ℕ
answered_by test [] positions = 0
answered_by test (p ∷ ps) [] = 0
answered_by test (p ∷ ps) (t ∷ ts) = how_many test (answered p t) + answered_by test ps ts

abbrev pub posted : ℕ → List Program → List Position → ℕ
posted sem programs positions = answered_by (posts_to sem) programs positions

abbrev pub waited : ℕ → List Program → List Position → ℕ
waited sem programs positions = answered_by (waits_for sem) programs positions

-- the value of a semaphore: its answered posts minus its answered waits
abbrev pub left : ℕ → List Program → List Position → ℕ
left sem programs positions = posted sem programs positions - waited sem programs positions

-- ---- done and stuck

-- all calls are answered
abbrev pub is_done : Program → Position → Bool
is_done p t = length t.replies == length p.calls

abbrev pub all_done : List Program → List Position → Bool
all_done [] positions = true
all_done (p ∷ ps) [] = true
all_done (p ∷ ps) (t ∷ ts) = is_done p t && all_done ps ts

-- the next call is a wait for a semaphore that is at 0
abbrev pub waits_in_vain : (ℕ → ℕ) → Option Call → Bool
waits_in_vain left_of (Some (call.Wait sem)) = left_of sem == 0
waits_in_vain left_of _ = false

abbrev pub all_wait : (ℕ → ℕ) → List Program → List Position → Bool
all_wait left_of [] positions = true
all_wait left_of (p ∷ ps) [] = true
all_wait left_of (p ∷ ps) (t ∷ ts) =
    (is_done p t || waits_in_vain left_of (slice_get p.calls (length t.replies)))
    && all_wait left_of ps ts

-- some task isn't done, and every such task waits for a semaphore that is at 0
abbrev pub is_stuck : List Program → List Position → Bool
is_stuck programs positions =
    not (all_done programs positions) && all_wait
    (λ sem. left sem programs positions) programs positions

-- ---- the end

-- a schedule may stop anywhere; rounds and threads go on until all tasks are done or the run is
-- stuck
abbrev pub IsThrough : Ending → Bool → Type 0
IsThrough (ending.Schedule turns) over = Unit {0}
IsThrough _ over = over ≡ true

pub record IsEnded (ending : Ending) (programs : List Program) (positions : List Position)
    : Type 0 where
  -- every wait that was answered had its post
  pub paid : (sem : ℕ) → waited sem programs positions ≤ posted sem programs positions
  pub through : IsThrough ending (all_done programs positions || is_stuck programs positions)
