use Rattle.std.proofs.Common.{ℕ, ap}
use Rattle.std.proofs.lemmas.Result.{on_ok_weaker}
use Rattle.view_page.specs.Parts.{more}
use Rattle.view_sentences.specs.Sentences.{named_from}
use Rattle.view_page.specs.declared.part.Part.TheVariants as part
use Rattle.view_page.specs.declared.told.Told.TheVariants as told
use Rattle.view_page.proofs.Joined.{as_parts, ◌▹◌}
use Rattle.view_sentences.proofs.named.push_holders.Goals as goal

pub returns : goal.returns
returns c =
    on_ok_weaker c.push_more.result
    (λ pushed. as_parts c.in_ok-push_named.ensures
    (ap (named_from c.args.journal.now 0) c.first_of.ensures)
    ▹ as_parts pushed
    (ap (λ (n : ℕ). more (part.Told told.And) n (part.Told told.More))
    c.saturating_sub-more.ensures))
    c.push_more.ensures
