use Rattle.std.proofs.Common.{◌≢◌, List, ℕ, length, Option, Err, ok_or, refl, subst, arith}
use Rattle.policy_rules.specs.declared.access.Super.{Super}
use Rattle.script_words.specs.declared.fault.LineCause.TheVariants as cause
use Rattle.script_words.specs.Gives.{LineGives}
use Rattle.script_fields.specs.SuperFields.{super_in}
use Rattle.script_fields.proofs.Fields.{but_four}
use Rattle.script_fields.proofs.Fronts.{four_said}
use Rattle.script_fields.proofs.supers.super_in.Goals as goal
use Rattle.script_fields.proofs.supers.super_in.Goals.{in_default-via-then-fields-lt4}
use Rattle.script_fields.proofs.supers.super_in.Goals.{in_default-via-else-fields-lt4+else-fields-lt5}

pub returns-in_default : goal.returns-in_default
returns-in_default c =
    let other : length c.args.fields.now ≢ 4 = elim c.in_default.branch [
      | in_default-via-then-fields-lt4 w ↦ grind arith
      | in_default-via-else-fields-lt4+else-fields-lt5 w ↦ grind arith
    ] in
    but_four (λ (ws : List (List ℕ)). ok_or (super_in ws) cause.BadField) (Err cause.BadField)
    refl (λ a. refl) (λ a b. refl) (λ a b d. refl) (λ a b d e f more. refl) c.args.fields.now other

pub returns : goal.returns
returns c =
    subst (λ (s : Option Super). LineGives c.super_of.result (ok_or s cause.BadField))
    (four_said c.args.fields.now _ (omega arith)) c.super_of.ensures
