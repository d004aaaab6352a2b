-- The draft at the end of a text has the forms and the limits.
use Rattle.buffer_text.proofs.LinesKept.{text_is}
use Rattle.buffer_text.proofs.read.parse.Goals as goal

pub finish-requires : goal.finish-requires
finish-requires c =
    text_is c.args.text.now c.new.result c.in_ok-draft.draft c.new.ensures c.in_ok-draft.ensures

pub returns-clause-kept : goal.returns-clause-kept
returns-clause-kept c =
    let is = text_is c.args.text.now c.new.result c.in_ok-draft.draft c.new.ensures
    c.in_ok-draft.ensures in
    rw c.finish.ensures is
