-- The registers are the replay of the list.
use Rattle.std.proofs.Common.{ap, ◌∙◌}
use Rattle.grow_list.specs.Shown.{Grown}
use Rattle.measure_book.specs.Replay.{replay}
use Rattle.ima_templates.specs.declared.entry.Entry.{Entry}
use Rattle.measure_book.proofs.ReplayLemmas.{register-banks_of}
use Rattle.pcr_bank.specs.Banks.{register}
use Rattle.pcr_bank.specs.declared.banks.Banks.{Banks}
use Rattle.measure_book.proofs.book.Book.value.Goals as goal

pub returns : goal.returns
returns c =
    c.value.ensures
    ∙ ap (λ (b : Banks). register b c.args.bank c.args.pcr) c.self.invariant.banks
    ∙ register-banks_of c.self.inside.list.list c.args.bank c.args.pcr c.requires
    ∙ ap (λ (b : Grown Entry). replay b.list c.args.bank c.args.pcr) c.self.view_is
