use Rattle.std.proofs.Common.{ap, ◌∙◌}
use Rattle.label_values.specs.Labels.{label_of}
use Rattle.script_text.proofs.LabelFront.{shown, shown_from_start}
use Rattle.script_text.proofs.files.label_put.Goals as goal

pub returns-clause-ok : goal.returns-clause-ok
returns-clause-ok c =
    let label_is = ap label_of c.digest_of_content-digest.ensures in
    let from_start = shown_from_start c.write_label-len.new.out _ _ c.write_label-len.result
    c.write_label-len.ensures.written c.write_label-len.ensures.length ∙ label_is in
    let front = shown c.write_label-len.new.out _ _ c.write_label-len.result
    c.write_label-len.ensures.written c.write_label-len.ensures.length ∙ label_is in
    simp (front, from_start) at c.attrs_put.ensures.ok
