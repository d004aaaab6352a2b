use Rattle.std.proofs.Common.{ap}
use Rattle.std.proofs.lemmas.Result.{on_ok_weaker}
use Rattle.view_sentences.specs.Sentences.{holder_by}
use Rattle.view_page.proofs.Joined.{as_parts}
use Rattle.view_sentences.proofs.named.push_holder.Goals as goal

pub returns : goal.returns
returns c =
    on_ok_weaker c.push_holder_by.result
    (λ pushed. as_parts pushed (ap (holder_by c.args.file) c.opener.ensures))
    c.push_holder_by.ensures
