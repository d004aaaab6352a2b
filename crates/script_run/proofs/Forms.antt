-- The scene of each script has the forms by which its shown runs are sound.
use Rattle.std.proofs.Common.{◌≡◌, ℕ, true, List, [], ◌∷◌, codes, map, refl, sym, ap, ◌∙◌, arith}
use Rattle.std.specs.List.{AllByRecursion, list_all}
use Rattle.std.proofs.lemmas.Bool.Decides.{nat_tests}
use Rattle.std.proofs.lemmas.List.Elements.{All-from_recursion}
use Rattle.call_steps.specs.hashes.Digest.{HasDigestSize}
use Rattle.call_steps.specs.hashes.Algo.{algo_size}
use Rattle.call_steps.specs.hashes.declared.algo.Algo.TheVariants.{Sha1}
use Rattle.call_steps.specs.hashes.declared.digest.Digest.{Digest}
use Rattle.ima_templates.specs.IsEntry.{IsEntry}
use Rattle.ima_templates.specs.Path.{IsGraphic, IsMeasuredPath}
use Rattle.policy_rules.specs.meta.declared.measurement.Template.{Template}
use Rattle.policy_rules.specs.meta.declared.measurement.Template.TheVariants.{Ima, ImaNg, ImaSig, ImaBuf}
use Rattle.policy_rules.specs.declared.access.Super.{Super}
use Rattle.run_model.specs.Scene.{ScriptFile}
use Rattle.script_text.specs.Forms.{IsDigestOf, IsFile, IsScript}
use Rattle.script_text.specs.ScriptValue.{ScriptValue}
use Rattle.script_text.specs.Settings.{boot_algo}
use Rattle.script_text.specs.declared.blocks.FileBlock.{FileBlock}
use Rattle.script_text.proofs.Holding.{left_true, right_true}
use Rattle.policy_rules.specs.forms.Words.{is_visible}
use Rattle.script_start.specs.scenes.Scene.{IsForFiles, boot_by, scene_of, script_file_of}
use Rattle.script_start.proofs.about_scenes.Paths.{measured_path}
use Rattle.run_laws.specs.shown.Places.{HasForms}

-- the paths of a script's files can be shown by each template
paths_shown : (supers : List Super) (files : List FileBlock)
    → AllByRecursion (IsFile supers) files
    → AllByRecursion (λ (x : ScriptFile). IsMeasuredPath Ima x.path)
    (map (script_file_of supers) files)
paths_shown supers [] h = tt
paths_shown supers (b ∷ bs) h = (measured_path b.path h.0.path, paths_shown supers bs h.1)

-- ---- the boot aggregate

graphic : (bs : List ℕ) → list_all is_visible bs ≡ true → AllByRecursion IsGraphic bs
graphic [] h = tt
graphic (b ∷ bs) h =
    let here : is_visible b ≡ true = left_true (is_visible b) (list_all is_visible bs) h in (
      (grind (arith, nat_tests), grind (arith, nat_tests)),
      graphic bs (right_true (is_visible b) (list_all is_visible bs) h),
    )

-- under each template the boot aggregate is an entry
boot_is : (t : Template) (d : Digest) → HasDigestSize d → (t ≡ Ima → d.algo ≡ Sha1)
    → IsEntry (boot_by t d)
boot_is Ima d size algo = record {
  pcr = omega arith;
  digest_size = size;
  digest_of_ima = algo;
  name_not_empty = omega arith;
  name_at_most = omega arith;
  name_graphic = All-from_recursion IsGraphic (codes "boot_aggregate")
      (graphic (codes "boot_aggregate") refl);
  name_of_ima = λ is. omega arith;
  sig_at_most = omega arith;
  sig_of_ima = λ is. refl;
  sig_of_ima_ng = λ is. refl;
  violation = λ is. absurd (cc);
}
boot_is ImaNg d size algo = record {
  pcr = omega arith;
  digest_size = size;
  digest_of_ima = algo;
  name_not_empty = omega arith;
  name_at_most = omega arith;
  name_graphic = All-from_recursion IsGraphic (codes "boot_aggregate")
      (graphic (codes "boot_aggregate") refl);
  name_of_ima = λ is. omega arith;
  sig_at_most = omega arith;
  sig_of_ima = λ is. refl;
  sig_of_ima_ng = λ is. refl;
  violation = λ is. absurd (cc);
}
boot_is ImaSig d size algo = record {
  pcr = omega arith;
  digest_size = size;
  digest_of_ima = algo;
  name_not_empty = omega arith;
  name_at_most = omega arith;
  name_graphic = All-from_recursion IsGraphic (codes "boot_aggregate")
      (graphic (codes "boot_aggregate") refl);
  name_of_ima = λ is. omega arith;
  sig_at_most = omega arith;
  sig_of_ima = λ is. refl;
  sig_of_ima_ng = λ is. refl;
  violation = λ is. absurd (cc);
}
boot_is ImaBuf d size algo = record {
  pcr = omega arith;
  digest_size = size;
  digest_of_ima = algo;
  name_not_empty = omega arith;
  name_at_most = omega arith;
  name_graphic = All-from_recursion IsGraphic (codes "boot_aggregate")
      (graphic (codes "boot_aggregate") refl);
  name_of_ima = λ is. omega arith;
  sig_at_most = omega arith;
  sig_of_ima = λ is. refl;
  sig_of_ima_ng = λ is. refl;
  violation = λ is. absurd (cc);
}

boot_entry : (s : ScriptValue) → IsDigestOf (boot_algo s.template s.hash) s.boot
    → IsEntry (boot_by s.template s.boot)
boot_entry s h =
    boot_is s.template s.boot (h.size ∙ ap algo_size (sym h.is))
    (λ is. h.is ∙ ap (λ (t : Template). boot_algo t s.hash) is)

-- the scene of a script has the forms
pub script_forms : (s : ScriptValue) → IsScript s → (for_files : IsForFiles s)
    → HasForms (scene_of s for_files)
script_forms s kept for_files = record {
  paths = All-from_recursion (λ (x : ScriptFile). IsMeasuredPath Ima x.path)
      (map (script_file_of s.supers) s.files) (paths_shown s.supers s.files kept.files.each);
  boot = boot_entry s kept.boot;
}
