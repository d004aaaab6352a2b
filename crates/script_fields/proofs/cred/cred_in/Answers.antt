use Rattle.std.proofs.Common.{None, refl, sym, arith}
use Rattle.script_fields.specs.TaskFields.{cred_in}
use Rattle.script_fields.proofs.Fields.{below_four}
use Rattle.script_fields.proofs.cred.cred_in.Goals as goal

pub returns-in_default : goal.returns-in_default
returns-in_default c =
    sym (below_four cred_in None refl (λ a. refl) (λ a b. refl) (λ a b d. refl) c.args.fields.now
    (omega arith))
