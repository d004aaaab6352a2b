use Rattle.std.proofs.Common.{refl}
use Rattle.view_journal.proofs.WindowsSteps.{joined_next, parted_next, windows_all}
use Rattle.view_journal.proofs.window.windows_around.Goals as goal
use Rattle.view_journal.proofs.window.windows_around.Goals.{then-next+in_ok-push, else-next}

pub grow-next-requires : goal.grow-next-requires
grow-next-requires c = c.loop-place.invariant.small

pub loop-place-init : goal.loop-place-init
loop-place-init c = record {
  small = c.first_window-growth.ensures.small;
  same = rw (c.new-windows.ensures.items, c.first_window-growth.ensures.is) refl;
}

pub loop-place-preserved : goal.loop-place-preserved
loop-place-preserved c =
    let is = rw c.around.ensures at c.grow-next.ensures.is in
    elim c.if-next.branch [
      | then-next+in_ok-push w ↦ rw (w.growth-is, w.windows-is) record {
        small = c.grow-next.ensures.small;
        same = parted_next c.args.most c.args.last c.args.places.now c.loop-place.place-index
            c.loop-place.growth c.grow-next.result c.loop-place.windows.items
            w.push.new.self.items _ c.loop-place-test.true is w.if-next.true
            w.in_ok-push.ensures.items c.loop-place.invariant.same;
      }
      | else-next w ↦ rw (w.growth-is, w.windows-is) record {
        small = c.grow-next.ensures.small;
        same = joined_next c.args.most c.args.last c.args.places.now c.loop-place.place-index
            c.loop-place.growth c.grow-next.result c.loop-place.windows.items _
            c.loop-place-test.true is w.if-next.false c.loop-place.invariant.same;
      }
    ]

pub returns : goal.returns
returns c =
    windows_all c.args.most c.args.last c.args.places.now c.loop-place.place-index
    c.loop-place.growth c.loop-place.windows.items c.push-2.new.self.items _
    c.loop-place-test.false c.in_ok-push-2.ensures.items c.loop-place.invariant.same
