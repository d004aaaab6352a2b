-- Valid contents that were read of bytes are those of an entry.
use Rattle.std.proofs.Common.{sym, ◌∙◌, arith}
use Rattle.carry_form.specs.Contents.{shown}
use Rattle.carry_form.proofs.EntryLemmas.{entry-contents}
use Rattle.carry_form.proofs.entries.entry_in.Goals as goal

pub entry_with-requires : goal.entry_with-requires
entry_with-requires c =
    entry-contents c.args.pcr c.args.template c.args.violation c.args.bytes.now
    (shown c.in-Some.contents) (λ k. let fits = c.type_inv.bytes k in omega arith)
    (sym c.in-Some.ensures) (sym c.is_valid.ensures ∙ c.if-not-is_valid.false)
