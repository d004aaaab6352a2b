use Rattle.std.proofs.Common.{refl, sym, ◌∙◌, arith}
use Rattle.report_read.specs.Draft.{no_span}
use Rattle.report_read.specs.Lines.{birth_event}
use Rattle.view_journal.proofs.WindowsSteps.{marked_all, marked_next, unmarked_next}
use Rattle.view_journal.proofs.window.of_interest.Goals as goal
use Rattle.view_journal.proofs.window.of_interest.Goals.{then-is_marked+in_ok-push, else-is_marked}

pub loop-place-init : goal.loop-place-init
loop-place-init c = rw c.new-places.ensures.items refl

pub loop-place-preserved : goal.loop-place-preserved
loop-place-preserved c =
    elim c.if-is_marked.branch [
      | then-is_marked+in_ok-push w ↦ rw w.places-is
          (marked_next c.args.journal.now c.loop-place.place (birth_event no_span)
          c.loop-place.places.items w.push.new.self.items _ c.loop-place-test.true
          (sym c.is_marked.ensures ∙ w.if-is_marked.true) w.in_ok-push.ensures.items
          c.loop-place.invariant)
      | else-is_marked w ↦ rw w.places-is
          (unmarked_next c.args.journal.now c.loop-place.place (birth_event no_span)
          c.loop-place.places.items _ c.loop-place-test.true
          (sym c.is_marked.ensures ∙ w.if-is_marked.false) c.loop-place.invariant)
    ]

pub returns : goal.returns
returns c =
    marked_all c.args.journal.now c.loop-place.place _ c.loop-place.places.items
    c.push-2.new.self.items (omega arith) c.saturating_sub.ensures c.in_ok-push-2.ensures.items
    c.loop-place.invariant
