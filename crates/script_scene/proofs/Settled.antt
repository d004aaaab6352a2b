-- Settings are the same with another proof for one of their fields.
use Rattle.std.proofs.Common.{◌≡◌, true, subst}
use Rattle.std.proofs.Math.Bool.{Bool-set}
use Rattle.script_text.specs.evm.Setup.{Setup}
use Rattle.run_model.specs.events.declared.settings.Settings.{Settings}
use Rattle.run_model.specs.policy.RuleValue.{is_named_template}
use Rattle.script_text.specs.Files.{setup_of}
use Rattle.script_text.specs.ScriptValue.{ScriptValue}
use Rattle.script_scene.specs.Scene.{IsForFiles, settings_of}

-- the settings of a script, whose EVM was made separately
abbrev pub made : (s : ScriptValue) → Setup → IsForFiles s → Settings
made s evm for_files = record {
  hash = s.hash;
  template = s.template;
  mode = s.mode;
  evm = evm;
  for_files = for_files;
}

made_same : (s : ScriptValue) (p : IsForFiles s) (evm : Setup) → evm ≡ setup_of s
    → (q : IsForFiles s) → made s evm p ≡ settings_of s q
made_same s p evm is q = λ i. record {
  hash = s.hash;
  template = s.template;
  mode = s.mode;
  evm = is i;
  for_files = Bool-set (is_named_template s.template) true p q i;
}

-- these settings are those of the script that contracts see
pub made_is : (v s : ScriptValue) (p : IsForFiles v) (evm : Setup) → v ≡ s → evm ≡ setup_of s
    → (q : IsForFiles s) → made v evm p ≡ settings_of s q
made_is v s p evm same is q =
    subst (λ (x : ScriptValue). evm ≡ setup_of x → (r : IsForFiles x)
    → made v evm p ≡ settings_of x r) same (λ e r. made_same v p evm e r) is q
