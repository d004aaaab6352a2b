-- The value of a text of buffers that contracts see, by its fields.
use Rattle.buffer_text.specs.declared.text.BufferText.TheInside.{Inside}
use Rattle.buffer_text.specs.Text.{BufferValue}

abbrev pub text_value : Inside → BufferValue
text_value t = record {
  hash = t.hash;
  rules = t.rules;
  callers = t.callers.items;
  threads = t.threads;
}
