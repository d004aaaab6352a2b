use Rattle.std.proofs.Common.{◌∙◌, ap}
use Rattle.hash_algos.specs.Digest.{digest_of}
use Rattle.label_values.specs.Labels.{label_of}
use Rattle.inode_events.specs.Integrity.{attributes, label_in}
use Rattle.inode_events.specs.State.{content, metadata}
use Rattle.journal_laws.proofs.Closings.{labelled}
use Rattle.journal_laws.proofs.Labels.{label-put}
use Rattle.journal_laws.proofs.label_at_close.Goals as goal

pub returns : goal.returns
returns c = λ i p who file h. (
  labelled i p who file h.1.0 h.1.1,
  ap label_in (labelled i p who file h.1.0 h.1.1)
      ∙ label-put i.settings.evm (attributes i p) (label_of (digest_of i.settings.hash (content p)))
      (metadata p),
)
