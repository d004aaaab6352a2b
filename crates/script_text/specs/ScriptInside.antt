-- The value of a script that contracts see, by its fields.
use Rattle.script_text.specs.declared.script.Script.TheInside.{Inside}
use Rattle.script_text.specs.ScriptValue.{ScriptValue}

abbrev pub script_value : Inside → ScriptValue
script_value s = record {
  hash = s.hash;
  template = s.template;
  boot = s.boot;
  mode = s.mode;
  key = s.key;
  added = s.added.items;
  locked = s.locked;
  format = s.format;
  supers = s.supers.items;
  files = s.files.items;
  rules = s.rules;
  tasks = s.tasks.items;
  ending = s.ending;
}
