use Rattle.std.proofs.Common.{◌==◌, rules, tests}
use Rattle.std.proofs.lemmas.Iterator.{YieldsList-from_take}
use Rattle.std.proofs.lemmas.Iterator.Consumers.{map_from_collect}
use Rattle.std.proofs.lemmas.Iterator.Splits.{YieldsList-from_slice_split}
use Rattle.script_words.proofs.line.fields.Goals as goal

pub returns-in-Some : goal.returns-in-Some
returns-in-Some c =
    rw c.in-Some.is
    (map_from_collect _ c.collect.ensures.ran
    (YieldsList-from_take 9
    (YieldsList-from_slice_split _ (λ b. b == 32) c.in-Some.words.now (cc) (cc) (cc)
    (λ x b q k. search (rules, tests)))
    c.take.ensures.count))
