use Rattle.std.proofs.Common.{ℕ, ◌+◌, [], ◌∷◌, append-nil, drop, get_or, refl, sym, ◌∙◌}
use Rattle.list_lemmas.proofs.Remaining.{none_left, one_less}
use Rattle.view_plan.specs.Plan.{shown_of}
use Rattle.view_plan.proofs.WindowsLemmas.{no_window}
use Rattle.view_plan.proofs.plan.push_windows.Goals as goal

pub loop-window-preserved : goal.loop-window-preserved
loop-window-preserved c =
    let i : ℕ = c.loop-window.window-index in
    one_less c.loop-window.out.items (shown_of c.args.inode) c.args.windows.now i no_window
    (record { inode = c.args.inode; window = get_or c.args.windows.now i no_window } ∷ [])
    (shown_of c.args.inode (drop (i + 1) c.args.windows.now)) c.loop-window-test.true refl
    c.loop-window.invariant c.in_ok-push.ensures.items

pub returns : goal.returns
returns c =
    sym (append-nil c.loop-window.out.items)
    ∙ none_left c.loop-window.out.items (shown_of c.args.inode) c.args.windows.now
    c.loop-window.window-index c.loop-window-test.false c.loop-window.invariant
