use Rattle.std.proofs.Common.{ap, ◌∙◌}
use Rattle.std.proofs.lemmas.Result.{on_ok_weaker}
use Rattle.view_tables.specs.Entries.{said}
use Rattle.view_page.specs.Words.{after_word, cut}
use Rattle.view_page.proofs.Joined.{as_parts, ◌▹◌}
use Rattle.view_tables.proofs.calls.push_call_by.Goals as goal

pub returns : goal.returns
returns c =
    on_ok_weaker c.push_path.result
    (λ pushed. c.in_ok-push_linked.ensures
    ▹ as_parts c.in_ok-push_said.ensures
    (ap said (c.cut-line.ensures
    ∙ ap (cut 80) (c.after_word-2.ensures ∙ ap (after_word c.args.text.now) c.after_word.ensures)))
    ▹ pushed)
    c.push_path.ensures
