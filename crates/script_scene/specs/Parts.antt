-- The parts of a script with which a world starts.
use Rattle.std.specs.Prelude.{◌≡◌, map}
use Rattle.script_text.specs.ScriptValue.{ScriptValue}
use Rattle.script_scene.specs.Scene.{IsForFiles, boot_by, file_of, fs_of, settings_of}
use Rattle.script_scene.specs.declared.parts.ScriptParts.{ScriptParts}

pub record ArePartsOf (s : ScriptValue) (p : ScriptParts) : Type 0 where
  pub settings : (for_files : IsForFiles s) → p.settings ≡ settings_of s for_files
  pub boot : p.boot ≡ boot_by s.template s.boot
  pub inodes : p.inodes.items ≡ map file_of s.files
  pub places : p.places.items ≡ map fs_of s.files
  pub supers : p.supers.items ≡ s.supers
  pub rules : p.rules ≡ s.rules
  pub tasks : p.tasks.items ≡ s.tasks
  pub ending : p.ending ≡ s.ending
