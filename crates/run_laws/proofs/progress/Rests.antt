-- A task with a history is at rest.
use Rattle.std.proofs.Common.{subst}
use Rattle.run_model.specs.History.{Position, step_at}
use Rattle.run_laws.specs.progress.Resting.{MayStep}
use Rattle.run_laws.specs.progress.Rests.{RestsByHistory}
use Rattle.run_laws.proofs.progress.Ranged.{all_steps_may}

pub rests : RestsByHistory
rests scene s positions n p t h fit even legal at stands events signals = record {
  history = h;
  stands = stands;
  events = events;
  signals = signals;
  may = subst (λ (x : Position). MayStep scene s (step_at p x.call_state)) stands
      (all_steps_may scene s n p h (fit n p at) even
      (λ i script_file journal a b. (
        (legal.follows i script_file journal a b).0,
        (legal.follows i script_file journal a b).1,
      )) events);
}
