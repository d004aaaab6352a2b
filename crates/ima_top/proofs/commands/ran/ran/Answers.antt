use Rattle.std.proofs.Common.{◌≡◌, subst}
use Rattle.script_text.specs.ScriptValue.{ScriptValue}
use Rattle.ima_top.specs.commands.Ran.{IsLeftBy}
use Rattle.ima_top.proofs.commands.ran.ran.Goals as goal

pub returns : goal.returns
returns g c =
    let same : c.in_ok-consumed.consumed ≡ c.in_ok-script.script =
    cc (c.in_ok-consumed.ensures.1, c.in_ok-script.ensures.1) in (
      c.in_ok-script.ensures.0,
      (
        c.in_ok-script.ensures.1,
        subst (λ (s : ScriptValue). IsLeftBy s c.in_ok-ended.ended) same
            (record { kept = c.keeps.ensures; has_run = c.in_ok-ended.ensures }),
      ),
    )
