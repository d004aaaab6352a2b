use Rattle.std.proofs.Common.{ap, ◌∙◌}
use Rattle.std.proofs.lemmas.Result.{on_ok_weaker}
use Rattle.view_sentences.specs.Alike.{opener}
use Rattle.view_sentences.specs.Sentences.{opened, use_of}
use Rattle.view_page.specs.declared.told.Told.{Told}
use Rattle.view_page.specs.declared.told.Told.TheVariants as told
use Rattle.view_page.proofs.Joined.{as_parts, ◌▹◌}
use Rattle.view_sentences.proofs.said.push_open_writers.Goals as goal

pub returns : goal.returns
returns c =
    on_ok_weaker c.push_entry.result
    (λ pushed. as_parts c.in_ok-push_opened.ensures
    (ap (λ (t : Told). opened c.args.event told.OpenedToMeasure t told.HeldBy)
    (c.use_of-used.ensures ∙ ap use_of (c.opener.ensures
    ∙ ap (opener c.args.journal.now) c.file_of.ensures)))
    ▹ c.in_ok-push_holders_at.ensures ▹ pushed)
    c.push_entry.ensures
