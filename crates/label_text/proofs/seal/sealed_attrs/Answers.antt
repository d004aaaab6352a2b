use Rattle.std.proofs.Common.{ap, ◌∙◌}
use Rattle.script_text.specs.labels.Labels.{label_of}
use Rattle.script_text.proofs.LabelFront.{shown}
use Rattle.label_text.proofs.seal.sealed_attrs.Goals as goal

pub returns : goal.returns
returns c =
    let label_is = ap label_of c.digest_of_content-digest.ensures in
    let front = shown c.write_label-len.new.out _ _ c.write_label-len.result
    c.write_label-len.ensures.written c.write_label-len.ensures.length ∙ label_is in
    simp (front, c.in_ok-attrs.ensures) at c.in_ok-change.ensures.ok
