-- The scene of each script has names and rules that a line can show.
use Rattle.std.proofs.Common.{◌≡◌, ℕ, ◌≤◌, ◌&&◌, true, nat_le, nat_lt, List, [], ◌∷◌, Some, None, length, map, arith}
use Rattle.std.specs.List.{AllByRecursion, list_all}
use Rattle.call_steps.specs.declared.call.Call.{Call}
use Rattle.call_steps.specs.declared.call.Call.TheVariants as call
use Rattle.run_model.specs.events.declared.deed.Change.TheVariants as change
use Rattle.policy_rules.specs.declared.access.Super.{Super}
use Rattle.report_laws.specs.Law.{HasNames, IsNamedCall}
use Rattle.report_text.proofs.CleanWords.{visible}
use Rattle.report_text.specs.Ranges.{IsClean}
use Rattle.run_model.specs.Scene.{Program, ScriptFile}
use Rattle.script_text.specs.Forms.{IsFile, IsScript, are_bytes, is_attr, is_cred, is_line_call, is_mode, is_task}
use Rattle.script_text.specs.ScriptValue.{ScriptValue}
use Rattle.script_text.specs.declared.blocks.FileBlock.{FileBlock}
use Rattle.script_text.specs.declared.blocks.TaskBlock.{TaskBlock}
use Rattle.script_text.proofs.Holding.{left_true, right_true}
use Rattle.script_start.specs.scenes.Scene.{IsForFiles, program_of, scene_of, script_file_of}
use Rattle.policy_rules.specs.forms.Tokens.{is_filled}
use Rattle.policy_rules.specs.forms.Words.{is_clean, is_visible, is_word}
use Rattle.ima_templates.specs.xattrs.Attrs.{Pair}
use Rattle.script_run.specs.Run.{AreRulesKept, KeepsRule}
use Rattle.script_start.proofs.Fits.{at_most}
use Rattle.script_run.proofs.Forms.{script_forms}

word_clean : (w : List ℕ) → is_word 255 w ≡ true → is_clean w ≡ true
word_clean w h =
    visible w (right_true (is_filled w && nat_le (length w) 255) (list_all is_visible w) h)

-- the names of a file's attributes are words
attrs_named : (ps : List Pair) → list_all is_attr ps ≡ true
    → AllByRecursion (λ (p : Pair). IsClean p.0) ps
attrs_named [] h = tt
attrs_named (p ∷ ps) h = (
  word_clean p.0 (left_true (is_word 255 p.0) (are_bytes p.1)
      (left_true (is_attr p) (list_all is_attr ps) h)),
  attrs_named ps (right_true (is_attr p) (list_all is_attr ps) h),
)

files_named : (supers : List Super) (files : List FileBlock)
    → AllByRecursion (IsFile supers) files
    → AllByRecursion (λ (s : ScriptFile). AllByRecursion (λ (p : Pair). IsClean p.0) s.birth.attrs)
    (map (script_file_of supers) files)
files_named supers [] h = tt
files_named supers (b ∷ bs) h =
    (attrs_named b.image.attrs h.0.attrs.forms, files_named supers bs h.1)

-- a call of a script has names, modes and rules that a line can show
call_named : (files : ℕ) (c : Call) → is_line_call files c ≡ true → KeepsRule c → IsNamedCall c
call_named files (call.SetAttr inode name (Some value)) h k =
    word_clean name (left_true (is_word 255 name) _ (right_true (nat_lt inode files) _ h))
call_named files (call.SetAttr inode name None) h k =
    word_clean name (left_true (is_word 255 name) _ (right_true (nat_lt inode files) _ h))
call_named files (call.SetMeta inode (change.Mode mode)) h k =
    let form = is_mode mode in
    let is : form ≡ true = left_true form true (right_true (nat_lt inode files) (form && true) h) in
    let low : mode ≤ 0xffff = at_most mode 0xffff is in
    omega (arith, low)
call_named files (call.SetMeta inode (change.Owner uid gid)) h k = tt
call_named files (call.AddRule rule) h k = k
call_named files c h k = tt

calls_named : (files : ℕ) (cs : List Call) → list_all (is_line_call files) cs ≡ true
    → AllByRecursion KeepsRule cs → AllByRecursion IsNamedCall cs
calls_named files [] h k = tt
calls_named files (c ∷ cs) h k = (
  call_named files c (left_true (is_line_call files c) (list_all (is_line_call files) cs) h) k.0,
  calls_named files cs (right_true (is_line_call files c) (list_all (is_line_call files) cs) h) k.1,
)

tasks_named : (files : ℕ) (ts : List TaskBlock) → list_all (is_task files) ts ≡ true
    → AllByRecursion (λ (b : TaskBlock). AllByRecursion KeepsRule b.calls) ts
    → AllByRecursion (λ (p : Program). AllByRecursion IsNamedCall p.calls) (map program_of ts)
tasks_named files [] h k = tt
tasks_named files (t ∷ ts) h k =
    let here : (is_cred t.cred && list_all (is_line_call files) t.calls) ≡ true =
    left_true (is_task files t) (list_all (is_task files) ts) h in (
      calls_named files t.calls
          (right_true (is_cred t.cred) (list_all (is_line_call files) t.calls) here) k.0,
      tasks_named files ts (right_true (is_task files t) (list_all (is_task files) ts) h) k.1,
    )

-- the names of a script's scene
pub script_names : (s : ScriptValue) → IsScript s → AreRulesKept s → (for_files : IsForFiles s)
    → HasNames (scene_of s for_files)
script_names s kept rules for_files = record {
  forms = script_forms s kept for_files;
  attrs = files_named s.supers s.files kept.files.each;
  calls = tasks_named (length s.files) s.tasks kept.tasks.forms rules;
}
