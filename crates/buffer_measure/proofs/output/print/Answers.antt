use Rattle.std.proofs.Common.{◌≡◌, ap, length, map}
use Rattle.report_text.specs.Report.{entry_words}
use Rattle.report_text.proofs.Pushed.{entries_text}
use Rattle.buffer_measure.specs.Print.{head_lines, rest_lines}
use Rattle.buffer_measure.specs.Run.{RunValue}
use Rattle.buffer_measure.proofs.Printing.{run_pushed}
use Rattle.buffer_measure.proofs.output.print.Goals as goal

pub returns : goal.returns
returns c =
    let r = c.args.r.now in
    let list_is : c.r.inside.list.items ≡ r.list = ap (λ (v : RunValue). v.list) c.r.view_is in
    let banks_are : c.r.inside.banks ≡ r.banks = ap (λ (v : RunValue). v.banks) c.r.view_is in
    let answers_are : c.r.inside.answers.items ≡ r.answers =
    ap (λ (v : RunValue). v.answers) c.r.view_is in
    rw (
      c.in_ok-push_rest.ensures,
      c.as_slice.ensures.value,
      c.in_ok-push_entries.ensures,
      c.in_ok-push_head.ensures,
      c.new-out.ensures.items,
      c.as_slice-list.ensures.value,
      list_is,
      banks_are,
      answers_are,
    )
    (run_pushed (head_lines (length r.list)) (map entry_words r.list)
    (rest_lines r.list r.banks r.answers) _ (entries_text r.list))
