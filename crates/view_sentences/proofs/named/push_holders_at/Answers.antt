use Rattle.std.proofs.Common.{ℕ, List, ap, ◌∙◌, arith}
use Rattle.std.proofs.lemmas.List.{length-take-le}
use Rattle.std.proofs.lemmas.Result.{on_ok_weaker}
use Rattle.view_sentences.specs.Sentences.{named}
use Rattle.view_page.proofs.Joined.{as_parts}
use Rattle.view_sentences.proofs.named.push_holders_at.Goals as goal

pub returns : goal.returns
returns c =
    on_ok_weaker c.push_holders.result
    (λ pushed. as_parts pushed
    (ap (λ (files : List ℕ). named c.args.journal.now files)
    (c.deref.ensures.value ∙ c.in_ok-files.ensures)))
    c.push_holders.ensures

pub holders-requires : goal.holders-requires
holders-requires c =
    omega (
      arith,
      length-take-le c.args.place c.args.journal.now c.requires.within,
      c.requires.within,
      c.requires.few,
    )
