use Rattle.std.proofs.lemmas.Result.{on_ok_weaker}
use Rattle.view_page.proofs.Joined.{◌▹◌}
use Rattle.view_sentences.proofs.named.push_after_comma.Goals as goal

pub returns : goal.returns
returns c =
    on_ok_weaker c.push_holder.result
    (λ pushed. c.in_ok-push_comma.ensures ▹ pushed)
    c.push_holder.ensures
