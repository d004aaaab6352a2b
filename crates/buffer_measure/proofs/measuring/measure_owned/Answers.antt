-- The callers are ready before they run.
use Rattle.std.proofs.Common.{map, refl}
use Rattle.buffer_measure.specs.Workers.{caller_of}
use Rattle.buffer_measure.proofs.Starting.{ready_all}
use Rattle.buffer_measure.proofs.measuring.measure_owned.Goals as goal

pub run_all-requires-clause-ready : goal.run_all-requires-clause-ready
run_all-requires-clause-ready g c κs within =
    ready_all (record {
      name = c.in_ok-book.book.name;
      text = record {
        hash = c.t.inside.hash;
        rules = c.t.inside.rules;
        callers = map caller_of c.in_ok-book.workers.items;
        threads = c.t.inside.threads;
      };
    }) c.t.inside.hash c.t.inside.callers.items c.in_ok-book.book c.in_ok-book.workers.items
    c.in_ok-book.ensures refl refl
