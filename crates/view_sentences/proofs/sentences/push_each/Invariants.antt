use Rattle.std.proofs.Common.{take}
use Rattle.std.specs.List.{flat_map}
use Rattle.view_page.specs.Parts.{Pushed}
use Rattle.view_sentences.specs.Sentences.{sentence}
use Rattle.view_sentences.proofs.sentences.push_each.Given as goal

-- the sentences so far have been appended
abbrev pub invariant-loop-place : goal.invariant-loop-place
invariant-loop-place l =
    Pushed l.text l.fn.out.items l.out.items
    (flat_map (sentence l.text l.view l.journal l.windows) (take l.place-index l.places))
