-- A file that is read is settled.
use Rattle.std.proofs.lemmas.List.Elements.{All-weaker}
use Rattle.ima_templates.proofs.DataLemmas.{IsNamed, entry_named}
use Rattle.ima_templates.specs.IsEntry.{IsEntry}
use Rattle.journal_laws.proofs.Covered.{covered}
use Rattle.journal_laws.proofs.covered_reads.Goals as goal

pub returns : goal.returns
returns c = λ i list p who file from len t h reads listed path kept. covered i list p file h.1.1
    h.1.0.1.0 reads listed path (All-weaker IsEntry IsNamed entry_named list kept)
