use Rattle.std.proofs.Common.{suc, drop, sym, ap, ◌∙◌, subst, arith}
use Rattle.std.specs.List.{flat_map}
use Rattle.std.specs.Io.KnownBytes.{Appends}
use Rattle.std.proofs.KnownBytes.{Appends-trans}
use Rattle.std.proofs.lemmas.List.{take_all}
use Rattle.std.proofs.lemmas.Result.{err_from_is_err_and}
use Rattle.ima_io.specs.Bytes.{TookPart}
use Rattle.list_lemmas.proofs.Appending.{flat_map_item}
use Rattle.ima_io.proofs.Parts.{TookPart-after, flat_at}
use Rattle.ima_io.proofs.whole.write_pieces.Goals as goal

pub returns-in_err-write_all-clause-part : goal.returns-in_err-write_all-clause-part
returns-in_err-write_all-clause-part g c =
    let p = err_from_is_err_and c.from_residual.result c.from_residual.ensures.1 in
    let pieces = c.as_slice-piece-items.result.now in
    let i = c.loop-piece.piece-index in
    let piece = c.piece-item.result in
    rw (p.1) (TookPart-after _ _ _ c.args.pieces.now _ piece.items
    (flat_map (λ v. v.items) (drop (suc i) pieces))
    (sym c.as_slice-piece-items.ensures
    ∙ flat_at (λ v. v.items) pieces i piece c.loop-piece-test.true c.piece-item.is)
    c.loop-piece.invariant.taken
    (subst (TookPart _ _) c.deref.ensures.value c.in_err-write_all.ensures.part))

pub loop-piece-preserved : goal.loop-piece-preserved
loop-piece-preserved g c =
    let old = c.loop-piece.invariant in
    let wrote = c.in_ok-write_all.ensures in record {
      taken = subst (Appends _ _)
          (sym (flat_map_item (λ v. v.items) c.as_slice-piece-items.result.now c.loop-piece.piece-index
          c.piece-item.result c.loop-piece-test.true c.piece-item.is))
          (Appends-trans _ _ _ _ _ old.taken
          (subst (Appends _ _) c.deref.ensures.value wrote.whole));
      count = omega (arith, old.count, wrote.count);
    }

pub returns-clause-whole : goal.returns-clause-whole
returns-clause-whole g c =
    subst (Appends _ _)
    (ap (flat_map (λ v. v.items)) (take_all c.loop-piece.piece-index
    c.as_slice-piece-items.result.now c.loop-piece-test.false)
    ∙ c.as_slice-piece-items.ensures)
    c.loop-piece.invariant.taken
