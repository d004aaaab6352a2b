use Rattle.std.proofs.lemmas.List.Elements.{All-weaker}
use Rattle.ima_templates.proofs.DataLemmas.{IsNamed, entry_named}
use Rattle.ima_templates.specs.IsEntry.{IsEntry}
use Rattle.journal_laws.proofs.Executed.{executed}
use Rattle.journal_laws.proofs.executed_is_undisturbed.Goals as goal

pub returns : goal.returns
returns c = λ i list p file legal alive exec listed path kept. executed i list p file legal alive
    exec listed path (All-weaker IsEntry IsNamed entry_named list kept)
