-- One more piece is appended, and at the end all are.
use Rattle.std.proofs.Common.{◌++◌, sym, ap, ◌∙◌}
use Rattle.std.proofs.lemmas.List.{take_all}
use Rattle.std.specs.List.{flat_map}
use Rattle.list_lemmas.proofs.Appending.{flat_map_item}
use Rattle.ima_io.proofs.pieces.Pieces.joined.Goals as goal

pub loop-piece-preserved : goal.loop-piece-preserved
loop-piece-preserved c =
    c.in_ok-extend_from_slice.ensures.items
    ∙ (λ i. c.loop-piece.invariant i ++ c.deref.ensures.value i)
    ∙ sym (flat_map_item (λ p. p.items) c.as_slice-piece-items.result.now c.loop-piece.piece-index
    c.piece-item.result c.loop-piece-test.true c.piece-item.is)

pub returns : goal.returns
returns c =
    c.loop-piece.invariant
    ∙ ap (flat_map (λ p. p.items)) (take_all c.loop-piece.piece-index
    c.as_slice-piece-items.result.now c.loop-piece-test.false)
    ∙ c.as_slice-piece-items.ensures
