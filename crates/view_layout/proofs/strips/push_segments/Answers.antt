use Rattle.std.proofs.Common.{[], ◌∷◌, ◌++◌, refl, sym, ap, ◌∙◌}
use Rattle.std.proofs.lemmas.Result.{on_ok_weaker}
use Rattle.view_journal.specs.declared.items.Item.{Item}
use Rattle.view_lanes.proofs.NoItems.{no_column}
use Rattle.view_layout.proofs.Segments.{begins, ends, goes_on}
use Rattle.view_layout.proofs.strips.push_segments.Goals as goal
use Rattle.view_layout.proofs.strips.push_segments.Goals.{then-not-goes_on+in_ok-push, else-not-goes_on}

pub loop-column-init : goal.loop-column-init
loop-column-init c = rw (c.middle-from.ensures.is, c.shown_in-shown.ensures) refl

pub loop-column-preserved : goal.loop-column-preserved
loop-column-preserved c =
    elim c.if-not-goes_on.branch [
      | then-not-goes_on+in_ok-push w ↦ rw (w.items-is, w.from-is, w.shown-is)
          (begins c.args.strip c.loop-column.from c.loop-column.to c.loop-column.shown
          c.args.rest.now c.loop-column.column-index no_column c.middle-x.result
          c.shown_in-next.result c.loop-column.items.items w.push.new.items.items _
          c.loop-column-test.true c.middle-x.ensures.is c.shown_in-next.ensures
          (sym c.goes_on.ensures ∙ w.if-not-goes_on.true)
          (w.in_ok-push.ensures
          ∙ ap (λ (x : Item). c.loop-column.items.items ++ x ∷ []) w.segment.ensures)
          c.loop-column.invariant)
      | else-not-goes_on w ↦ rw (w.items-is, w.from-is, w.shown-is)
          (goes_on c.args.strip c.loop-column.from c.loop-column.to c.loop-column.shown
          c.args.rest.now c.loop-column.column-index no_column c.middle-x.result
          c.shown_in-next.result c.loop-column.items.items _ c.loop-column-test.true
          c.middle-x.ensures.is c.shown_in-next.ensures
          (sym c.goes_on.ensures ∙ w.if-not-goes_on.false) c.loop-column.invariant)
    ]

pub returns : goal.returns
returns c =
    on_ok_weaker c.push-2.result
    (λ pushed. ends c.args.strip c.loop-column.from c.loop-column.to c.loop-column.shown
    c.args.rest.now c.loop-column.column-index c.saturating_sub.result c.loop-column.items.items
    c.push-2.new.items.items _ c.loop-column-test.false c.saturating_sub.ensures
    (pushed ∙ ap (λ (x : Item). c.loop-column.items.items ++ x ∷ []) c.segment-2.ensures)
    c.loop-column.invariant)
    c.push-2.ensures
