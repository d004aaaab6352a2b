use Rattle.std.proofs.Common.{ℕ, ◌-◌, ◌≤◌, List, length, drop, length-drop, ◌∙◌, arith}
use Rattle.std.proofs.lemmas.List.{take_all}
use Rattle.view_page.proofs.about_journals.Firsts.{after_so_many}
use Rattle.view_pages.proofs.sections.others_of.Goals as goal

pub returns : goal.returns
returns c =
    let xs : List ℕ = c.args.order.now in
    let m : ℕ = c.min.result in
    let fits : length (drop m xs) ≤ length xs - m = omega (arith, length-drop m xs) in
    take_all (length xs - m) (drop m xs) fits
    ∙ after_so_many xs 16 m (omega (arith, c.min.ensures))
