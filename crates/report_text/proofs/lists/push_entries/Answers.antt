use Rattle.std.proofs.Common.{List, ◌++◌, ap, ◌∙◌}
use Rattle.std.specs.List.{flat_map}
use Rattle.std.proofs.lemmas.List.{take_all}
use Rattle.ima_templates.specs.declared.entry.Entry.{Entry}
use Rattle.list_format.specs.Line.{ascii_line}
use Rattle.list_lemmas.proofs.Appending.{one_item}
use Rattle.report_text.proofs.lists.push_entries.Goals as goal

pub loop-entry-preserved : goal.loop-entry-preserved
loop-entry-preserved c =
    one_item _ ascii_line c.args.list.now c.loop-entry.entry-index c.entry-item.result
    c.loop-entry-test.true c.entry-item.is c.loop-entry.invariant c.in_ok-ascii.ensures.ok

pub returns : goal.returns
returns c =
    c.loop-entry.invariant
    ∙ ap (λ (es : List Entry). c.args.out.now.items ++ flat_map ascii_line es)
    (take_all c.loop-entry.entry-index c.args.list.now c.loop-entry-test.false)
