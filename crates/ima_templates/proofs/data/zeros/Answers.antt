-- The first `count` of 256 zeros are `count` zeros.
use Rattle.std.proofs.lemmas.List.{take-replicate}
use Rattle.ima_templates.proofs.data.zeros.Goals as goal

pub returns : goal.returns
returns c = take-replicate c.args.count 256 0 c.requires
