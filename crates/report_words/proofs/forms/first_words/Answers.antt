use Rattle.std.proofs.Common.{◌==◌, rules, tests}
use Rattle.std.proofs.lemmas.Iterator.{YieldsList-from_take}
use Rattle.std.proofs.lemmas.Iterator.Consumers.{map_from_collect}
use Rattle.std.proofs.lemmas.Iterator.Splits.{YieldsList-from_slice_split}
use Rattle.report_words.proofs.forms.first_words.Goals as goal

pub returns : goal.returns
returns c =
    map_from_collect _ c.collect.ensures.ran
    (YieldsList-from_take 24
    (YieldsList-from_slice_split _ (λ b. b == 32) c.args.line.now (cc) (cc) (cc)
    (λ x b q k. search (rules, tests)))
    c.take.ensures.count)
