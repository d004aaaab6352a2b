use Rattle.std.proofs.Common.{ℕ, take, ap, sym, ◌∙◌}
use Rattle.std.proofs.lemmas.List.{length-take-le}
use Rattle.std.proofs.lemmas.Result.{IfOk-weaker}
use Rattle.view_pages.specs.Pair.{most_pairs, numbers_from}
use Rattle.view_pages.proofs.chosen.numbers.Goals as goal

pub numbers_of-requires : goal.numbers_of-requires
numbers_of-requires c =
    length-take-le c.shown-n.result c.args.first.now c.shown-n.ensures.first
    ∙ sym (length-take-le c.shown-n.result c.args.second.now c.shown-n.ensures.second)

pub returns : goal.returns
returns c =
    IfOk-weaker c.numbers_of.result _ _
    (λ v found. found
    ∙ ap (λ (n : ℕ). numbers_from c.args.text.now 0 most_pairs (take n c.args.first.now)
    (take n c.args.second.now)) c.shown-n.ensures.value)
    c.numbers_of.ensures
