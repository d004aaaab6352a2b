-- A deed between two looks at the measurement list.
use Rattle.std.proofs.Common.{◌≡◌, ℕ, Option, Some, None, refl}
use Rattle.std.specs.Prelude.{Result, Ok, Err}
use Rattle.inode_events.specs.declared.told.Told.{Told}
use Rattle.task_steps.specs.Leaving as deeds
use Rattle.task_steps.specs.Acting.{step_result_in, told_in}

-- the outcome in the answer is that of the deed
pub answered_told : {E : Type 0} (place : ℕ) (r : Result (Option Told) E)
    → told_in (step_result_in place r) ≡ deeds.told_in r
answered_told place (Ok (Some t)) = refl
answered_told place (Ok None) = refl
answered_told place (Err e) = refl
