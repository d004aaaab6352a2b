use Rattle.std.proofs.Common.{ℕ, Option, ap, arith}
use Rattle.std.proofs.lemmas.List.{length-take-le}
use Rattle.std.proofs.lemmas.Result.{on_ok_weaker}
use Rattle.view_sentences.specs.Sentences.{writer}
use Rattle.view_page.proofs.Joined.{as_parts, ◌▹◌}
use Rattle.view_sentences.proofs.said.push_stale.Goals as goal

pub returns : goal.returns
returns c =
    on_ok_weaker c.push_writer.result
    (λ pushed. c.in_ok-push_not_as_hashed.ensures
    ▹ as_parts pushed
    (ap (λ (o : Option ℕ). writer c.args.journal.now o) c.last_write.ensures))
    c.push_writer.ensures

pub last_write-requires : goal.last_write-requires
last_write-requires c =
    omega (
      arith,
      length-take-le c.args.place c.args.journal.now c.requires.within,
      c.requires.within,
      c.requires.few,
    )
