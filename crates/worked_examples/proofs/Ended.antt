-- The examples of ends of runs.
use Rattle.std.proofs.Common.{◌≡◌, ◌≤◌, true, false, refl, arith, ◌∷◌, []}
use Rattle.run_laws.specs.model.Ended.{IsEnded}
use Rattle.run_laws.specs.model.steps.declared.ending.Ending.TheVariants as ending
use Rattle.worked_examples.specs.Ended.{EndedExamples, both_done, posts_and_waits}

-- true isn't false
apart : false ≡ true → ⊥
apart e = cc

-- the semaphore 1 was waited for once, and never posted
unpaid : IsEnded (ending.Schedule (1 ∷ [])) (posts_and_waits 1) both_done → ⊥
unpaid ended = let none : 1 ≤ 0 = ended.paid 1 in absurd (omega arith)

-- the examples, together
pub examples : EndedExamples
examples = record {
  stuck = refl;
  not_stuck = refl;
  done_not_stuck = refl;
  ends_stuck = record { paid = λ sem. omega arith; through = refl };
  ends_done = record { paid = λ sem. omega arith; through = refl };
  no_end_of_rounds = λ ended. apart ended.through;
  no_end_of_threads = λ ended. apart ended.through;
  end_of_schedule = record { paid = λ sem. omega arith; through = tt };
  unpaid = unpaid;
}
