use Rattle.view_overview.specs.Overview.{window}
use Rattle.view_page.proofs.Joined.{no_parts, one_more}
use Rattle.view_overview.proofs.overview.push_each.Goals as goal

pub loop-window-init : goal.loop-window-init
loop-window-init c = no_parts c.args.text.now c.args.out.now.items

pub loop-window-preserved : goal.loop-window-preserved
loop-window-preserved c =
    one_more (window c.args.scale) c.args.windows.now c.loop-window.window-index
    (record { first = 0; last = 0 }) c.loop-window-test.true c.loop-window.invariant
    c.in_ok-push_window.ensures
