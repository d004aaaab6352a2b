-- The list begins with the boot aggregate, since an empty list has no entry that is the same.
use Rattle.std.proofs.Common.{◌≡◌, ◌∷◌, List, IfOk, None, map, ap, ◌∙◌, subst}
use Rattle.hash_algos.specs.declared.digest.Digest.{Digest}
use Rattle.measure_book.specs.Replay.{banks_of}
use Rattle.ima_templates.specs.declared.entry.Entry.{Entry}
use Rattle.list_carry.specs.Books.{carried_on}
use Rattle.ima_top.specs.commands.Entries.{boot_entry, file_entry}
use Rattle.ima_top.specs.commands.List.{zero_boot}
use Rattle.ima_top.proofs.commands.list.measured.Goals as goal

pub returns-clause-list : goal.returns-clause-list
returns-clause-list c =
    let are : c.in_ok-entries.entries.items ≡ zero_boot ∷ map file_entry c.args.files.now =
    c.in_ok-entries.ensures
    ∙ ap (λ (d : Digest). boot_entry d ∷ map file_entry c.args.files.now) c.zeros.ensures in
    subst (λ (es : List Entry). IfOk c.carry_on.result (λ r. r.0.items ≡ carried_on None es)) are
    c.carry_on.ensures.list

pub returns-clause-banks : goal.returns-clause-banks
returns-clause-banks c =
    let are : c.in_ok-entries.entries.items ≡ zero_boot ∷ map file_entry c.args.files.now =
    c.in_ok-entries.ensures
    ∙ ap (λ (d : Digest). boot_entry d ∷ map file_entry c.args.files.now) c.zeros.ensures in
    subst (λ (es : List Entry). IfOk c.carry_on.result (λ r. r.1 ≡ banks_of (carried_on None es)))
    are c.carry_on.ensures.banks
