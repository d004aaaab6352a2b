-- The callers are ready before they run, and the list is closed after them.
use Rattle.std.proofs.Common.{◌≡◌, drop, length, List, sym, ap, ◌∙◌, subst}
use Rattle.std.proofs.lemmas.List.{take_at}
use Rattle.buffer_measure.specs.Workers.{AreDone, AreReady}
use Rattle.buffer_measure.specs.declared.workers.Worker.{Worker}
use Rattle.buffer_measure.proofs.measuring.run_all.Goals as goal

pub run_callers-requires-clause-ready : goal.run_callers-requires-clause-ready
run_callers-requires-clause-ready g c =
    λ κs out. subst (λ (ws : List Worker). AreReady g.N.Name.constants ws)
    (sym c.as_mut_slice.ensures.value) c.requires.ready

pub close-requires-clause-done : goal.close-requires-clause-done
close-requires-clause-done g c =
    let old = c.args.workers.items in
    let new = c.run_callers.new.workers in
    let even : length new ≡ c.args.workers.len =
    c.run_callers.ensures.even ∙ sym c.requires.ready.even
    ∙ ap (λ (ws : List Worker). length ws) (sym c.as_mut_slice.ensures.value)
    ∙ c.as_mut_slice.ensures.len in
    λ κs out. subst (λ (ws : List Worker). AreDone g.N.Name.constants ws)
    (sym (take_at new (drop (length new) old) c.args.workers.len even))
    c.run_callers.ensures
