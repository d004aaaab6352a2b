use Rattle.std.proofs.Common.{List, ap, ◌∙◌}
use Rattle.std.proofs.lemmas.Result.{on_ok_weaker}
use Rattle.view_page.specs.journals.declared.window.Window.{Window}
use Rattle.view_pages.specs.Pair.{compared}
use Rattle.view_page.proofs.Joined.{as_parts}
use Rattle.view_pages.proofs.pair.push_compared_in.Goals as goal

pub returns : goal.returns
returns c =
    on_ok_weaker c.push_compared.result
    (λ pushed. as_parts pushed
    (ap (λ (ws : List Window).
    compared c.args.text.now c.args.view c.args.mine.now c.args.other.now ws)
    (c.deref.ensures.value ∙ c.in_ok-windows.ensures)))
    c.push_compared.ensures
