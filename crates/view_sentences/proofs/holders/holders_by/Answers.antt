use Rattle.std.proofs.Common.{ℕ, List, length, ap, ◌∙◌, arith}
use Rattle.std.specs.Prelude.{reverse}
use Rattle.std.proofs.lemmas.Result.{IfOk-weaker}
use Rattle.view_page.specs.journals.Sentences.{held_by}
use Rattle.view_page.specs.journals.Walk.{Walk, start}
use Rattle.view_page.specs.journals.reading.words.declared.event.Kind.{Kind}
use Rattle.view_sentences.specs.Holders.{held_files, holds}
use Rattle.view_sentences.proofs.Walks.{files_by_walk, length-walked_all}
use Rattle.view_sentences.proofs.holders.holders_by.Goals as goal

pub holders_in-requires : goal.holders_in-requires
holders_in-requires c =
    omega (
      arith,
      ap length (c.held.ensures ∙ ap (λ (w : Walk). w.held) c.in_ok-walk.ensures),
      length-walked_all start c.args.journal.now,
      c.requires,
    )

pub returns : goal.returns
returns c =
    IfOk-weaker c.holders_in.result _ _
    (λ v found. found
    ∙ ap (λ (hs : List (ℕ × Kind)). reverse (held_by (holds c.args.holding) c.args.file hs))
    (ap held_files (c.held.ensures ∙ ap (λ (w : Walk). w.held) c.in_ok-walk.ensures)
    ∙ files_by_walk c.args.journal.now))
    c.holders_in.ensures
