-- The value of a draft that contracts see, by its fields.
use Rattle.buffer_text.specs.declared.draft.Draft.TheInside.{Inside}
use Rattle.buffer_text.specs.Draft.{Draft}

abbrev pub draft_value : Inside → Draft
draft_value d = record {
  text = record {
    hash = d.hash;
    rules = d.rules;
    callers = d.callers.items;
    threads = d.threads;
  };
  at = d.at;
  lines = d.lines;
  sum = d.sum;
}
