use Rattle.std.proofs.Common.{ap, ◌∙◌}
use Rattle.std.proofs.lemmas.Result.{on_ok_weaker}
use Rattle.view_tables.specs.Entries.{said}
use Rattle.view_page.specs.Words.{cut}
use Rattle.view_page.proofs.Joined.{as_parts, ◌▹◌}
use Rattle.view_tables.proofs.entries.push_by_event.Goals as goal

pub returns : goal.returns
returns c =
    on_ok_weaker c.push_said.result
    (λ pushed. c.in_ok-push_event.ensures
    ▹ as_parts pushed
    (ap said (c.cut.ensures ∙ ap (cut 80) c.after_word.ensures)))
    c.push_said.ensures
