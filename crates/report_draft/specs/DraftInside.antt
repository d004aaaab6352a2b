-- The value of a draft that contracts see, by its fields.
use Rattle.report_draft.specs.declared.draft.Draft.TheInside.{Inside}
use Rattle.report_draft.specs.Draft.{Draft}

abbrev pub draft_value : Inside → Draft
draft_value d = record {
  stage = d.stage;
  run = d.run;
  violations = d.violations;
  entries = d.entries.items;
  registers = d.registers.items;
  rules = d.rules.items;
  inodes = d.inodes.items;
  tasks = d.tasks.items;
  head = d.head;
  attrs = d.attrs.items;
  events = d.events.items;
  replies = d.replies.items;
  done = d.done.items;
  more = d.more;
}
