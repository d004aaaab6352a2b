use Rattle.report_read.proofs.TextBounds.{as_wanted}
use Rattle.report_read.proofs.by_line.read.Goals as goal

pub returns-clause-count : goal.returns-clause-count
returns-clause-count c =
    (as_wanted c.args.more c.args.text.now c.new.result c.in_ok-draft.draft c.finish.result.items
    c.requires c.new.ensures c.in_ok-draft.ensures c.finish.ensures).0

pub returns-clause-short : goal.returns-clause-short
returns-clause-short c =
    (as_wanted c.args.more c.args.text.now c.new.result c.in_ok-draft.draft c.finish.result.items
    c.requires c.new.ensures c.in_ok-draft.ensures c.finish.ensures).1
