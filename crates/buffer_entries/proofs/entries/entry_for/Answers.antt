-- The digest with the buffer's name and bytes are the fields of an entry.
use Rattle.buffer_entries.proofs.EntryLemmas.{buffer_entry}
use Rattle.buffer_entries.proofs.entries.entry_for.Goals as goal

pub restore-requires : goal.restore-requires
restore-requires c =
    rw c.in_ok-value.ensures
    (buffer_entry c.args.pcr c.digest_of-digest.result c.args.line c.requires.pcr
    c.as_slice-2.ensures.size c.requires.line)
