use Rattle.script_text.specs.ScriptInside.{script_value}
use Rattle.script_scene.proofs.Settled.{made_is}
use Rattle.script_scene.proofs.settings.settings_of.Goals as goal

pub returns : goal.returns
returns c = λ for_files.
    made_is (script_value c.script.inside) c.args.script.now _ c.in_ok-evm_of.field-0
    c.script.view_is c.in_ok-evm_of.ensures for_files
