use Rattle.std.proofs.Common.{◌≢◌, length, None, option_map, refl, sym, arith}
use Rattle.script_fields.specs.FileFields.{front_in}
use Rattle.script_fields.specs.FrontView.{front_view}
use Rattle.script_fields.proofs.Fields.{but_seven}
use Rattle.script_fields.proofs.Fronts.{seven_said}
use Rattle.script_fields.proofs.front.front_in.Goals as goal
use Rattle.script_fields.proofs.front.front_in.Goals.{in_default-via-then-fields-lt7}
use Rattle.script_fields.proofs.front.front_in.Goals.{in_default-via-else-fields-lt7+else-fields-lt8}

pub returns-in_default : goal.returns-in_default
returns-in_default c =
    let other : length c.args.fields.now ≢ 7 = elim c.in_default.branch [
      | in_default-via-then-fields-lt7 w ↦ grind arith
      | in_default-via-else-fields-lt7+else-fields-lt8 w ↦ grind arith
    ] in
    sym (but_seven front_in None refl (λ a. refl) (λ a b. refl) (λ a b d. refl) (λ a b d e. refl)
    (λ a b d e f. refl) (λ a b d e f g. refl) (λ a b d e f g h i more. refl) c.args.fields.now
    other)

pub returns : goal.returns
returns c =
    seven_said c.args.fields.now _ (option_map front_view c.front_of.result) (omega arith)
    c.front_of.ensures
