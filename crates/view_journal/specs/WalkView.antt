-- A walk of the code as one of the definitions.
use Rattle.view_journal.specs.declared.walk.Walk.{Walk as Fields}
use Rattle.view_journal.specs.Walk.{Walk}

abbrev pub walk_of : Fields → Walk
walk_of w = record {
  held = w.held.items;
  readers = w.readers;
  writers = w.writers;
  execs = w.execs;
  collecting = w.collecting;
  freshness = w.freshness;
}
