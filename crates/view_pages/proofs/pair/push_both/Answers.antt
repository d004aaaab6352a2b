use Rattle.std.proofs.Common.{ap}
use Rattle.std.proofs.lemmas.Result.{on_ok_weaker}
use Rattle.view_page.specs.declared.view.View.{View}
use Rattle.view_page.proofs.Joined.{as_parts, ◌▹◌}
use Rattle.view_pages.specs.Pair.{side_of}
use Rattle.view_pages.proofs.pair.push_both.Goals as goal

pub returns : goal.returns
returns c =
    on_ok_weaker c.push_side-2.result
    (λ pushed. as_parts c.in_ok-push_side.ensures
    (ap (λ (v : View). side_of c.args.text.now v c.args.first.now c.args.second.now.events)
    c.view_at-above.ensures)
    ▹ as_parts pushed
    (ap (λ (v : View). side_of c.args.text.now v c.args.second.now c.args.first.now.events)
    c.view_at-below.ensures))
    c.push_side-2.ensures
