use Rattle.std.proofs.Common.{Some, None}
use Rattle.script_fields.specs.FrontView.{front_view}
use Rattle.script_fields.proofs.Fronts.{file_said, none_said}
use Rattle.script_fields.proofs.front.file_in.Goals as goal

pub returns : goal.returns
returns c =
    file_said c.args.fields.now c.in-Some.front.now c.in-Some.content.now
    (Some (front_view c.in_ok-front.front)) c.in-Some.ensures.cases.0 c.in_ok-front.ensures

pub returns-in_err-front : goal.returns-in_err-front
returns-in_err-front c =
    rw c.from_residual.ensures
    (file_said c.args.fields.now c.in-Some.front.now c.in-Some.content.now None
    c.in-Some.ensures.cases.0 c.in_err-front.ensures)

pub returns-in_default : goal.returns-in_default
returns-in_default c = none_said c.args.fields.now c.in_default.ensures.cases
