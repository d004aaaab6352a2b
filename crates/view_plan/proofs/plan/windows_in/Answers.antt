use Rattle.std.proofs.Common.{◌++◌, List, append-nil, ap, sym, ◌∙◌}
use Rattle.list_lemmas.proofs.Remaining.{none_left}
use Rattle.view_journal.specs.declared.window.Window.{Window}
use Rattle.view_plan.specs.Plan.{windows_in}
use Rattle.view_plan.proofs.WindowsLemmas.{no_shown, other_next, own_next}
use Rattle.view_plan.proofs.plan.windows_in.Goals as goal
use Rattle.view_plan.proofs.plan.windows_in.Goals.{then-part-inode+in_ok-push, else-part-inode}

pub loop-part-init : goal.loop-part-init
loop-part-init c =
    ap (λ (ws : List Window). ws ++ windows_in c.args.inode c.args.shown.now)
    c.new-windows.ensures.items

pub loop-part-preserved : goal.loop-part-preserved
loop-part-preserved c =
    elim c.if-part-inode.branch [
      | then-part-inode+in_ok-push w ↦ rw w.windows-is
          (own_next c.args.inode c.args.shown.now c.loop-part.part-index no_shown
          c.loop-part.windows.items w.push.new.self.items _ c.loop-part-test.true
          w.if-part-inode.true w.in_ok-push.ensures.items c.loop-part.invariant)
      | else-part-inode w ↦ rw w.windows-is
          (other_next c.args.inode c.args.shown.now c.loop-part.part-index no_shown
          c.loop-part.windows.items _ c.loop-part-test.true w.if-part-inode.false
          c.loop-part.invariant)
    ]

pub returns : goal.returns
returns c =
    sym (append-nil c.loop-part.windows.items)
    ∙ none_left c.loop-part.windows.items (windows_in c.args.inode) c.args.shown.now
    c.loop-part.part-index c.loop-part-test.false c.loop-part.invariant
