use Rattle.std.proofs.Common.{◌≡◌, ◌++◌, ap, ◌∙◌, length, map, refl}
use Rattle.std.proofs.lemmas.Result.{IfOk-weaker}
use Rattle.report_text.specs.Report.{entry_words}
use Rattle.buffer_measure.specs.Parts.{entries_text}
use Rattle.buffer_measure.specs.Print.{head_lines, printed, rest_lines}
use Rattle.buffer_measure.specs.Run.{RunValue}
use Rattle.buffer_measure.proofs.Printing.{run_pushed}
use Rattle.buffer_measure.proofs.output.print_in_pieces.Goals as goal

pub returns : goal.returns
returns g c =
    let r = c.args.r in
    let list_is : c.r.inside.list.items ≡ r.list = ap (λ (v : RunValue). v.list) c.r.view_is in
    let is : (c.in_ok-head.head.items ++ entries_text c.r.inside.list.items)
    ++ c.in_ok-rest.rest.items ≡ printed r =
    rw (c.in_ok-rest.ensures, c.in_ok-head.ensures, list_is)
    (run_pushed (head_lines (length r.list)) (map entry_words r.list)
    (rest_lines r.list r.banks r.answers) _ refl) in
    IfOk-weaker c.in_pieces.result
    (λ out. out ≡ (c.in_ok-head.head.items ++ entries_text c.r.inside.list.items)
    ++ c.in_ok-rest.rest.items) (λ out. out ≡ printed r) (λ out made. made ∙ is)
    c.in_pieces.ensures
