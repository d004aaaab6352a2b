-- The list under the lock is the one that was started, and its callers are those of the text.
use Rattle.std.proofs.Common.{map}
use Rattle.buffer_measure.specs.Workers.{caller_of}
use Rattle.buffer_measure.proofs.measuring.measure_owned.Given as goal

abbrev pub ghosts-run_all : goal.ghosts-run_all
ghosts-run_all g a = record {
  constants = record {
    name = a.book.name;
    text = record {
      hash = a.hash;
      rules = a.rules.now;
      callers = map caller_of a.workers.items;
      threads = a.threads;
    };
  };
}
