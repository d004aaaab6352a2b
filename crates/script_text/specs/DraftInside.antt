-- The value of a draft that contracts see, by its fields.
use Rattle.script_text.specs.declared.draft.Draft.TheInside.{Inside}
use Rattle.script_text.specs.Draft.{Draft}

abbrev pub draft_value : Inside → Draft
draft_value d = record {
  script = record {
    hash = d.hash;
    template = d.template;
    boot = d.boot;
    mode = d.mode;
    key = d.key;
    added = d.added.items;
    locked = d.locked;
    format = d.format;
    supers = d.supers.items;
    files = d.files.items;
    rules = d.rules;
    tasks = d.tasks.items;
    ending = d.ending;
  };
  at = d.at;
  unsealed = d.unsealed;
  counted = d.counted;
  calls = d.calls;
  appended = d.appended;
  sum = d.sum;
  paths = d.paths;
}
