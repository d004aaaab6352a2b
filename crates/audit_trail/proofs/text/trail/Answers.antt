use Rattle.std.proofs.Common.{◌≡◌, ℕ, ◌<◌, List, ◌++◌, length, map, inl, inr, sym, ◌∙◌, ap, subst}
use Rattle.std.specs.List.{AllByRecursion}
use Rattle.std.specs.Prelude.{nat_lt}
use Rattle.std.proofs.lemmas.Bool.{cases_Bool, ltb-false, ltb-true}
use Rattle.std.proofs.lemmas.Option.{slice_get_past}
use Rattle.std.proofs.lemmas.Result.{IfOk-weaker}
use Rattle.script_scene.specs.Scene.{IsForFiles, fs_of, program_of, scene_of, script_file_of}
use Rattle.world_model.specs.model.EndedValue.{EndedValue}
use Rattle.world_model.specs.model.events.forms.Words.{text_of}
use Rattle.world_model.specs.model.policy.declared.access.Super.{Super}
use Rattle.world_model.specs.model.rules.Policy.{rules_in}
use Rattle.audit_trail.proofs.Placed.{placed_all}
use Rattle.audit_trail.proofs.Standing.{run_legal}
use Rattle.audit_trail.specs.Trail.{all_lines, trail_lines}
use Rattle.audit_trail.proofs.text.trail.Goals as goal

-- the files and the file systems that the code passes are the script's
pub trail_by-requires-clause-placed : goal.trail_by-requires-clause-placed
trail_by-requires-clause-placed c =
    let files : c.as_slice-3.result.now ≡ c.args.script.now.files =
    c.as_slice-3.ensures.value ∙ (λ i. (c.script.view_is i).files) in
    let supers : c.as_slice-4.result.now ≡ c.args.script.now.supers =
    c.as_slice-4.ensures.value ∙ (λ i. (c.script.view_is i).supers) in
    let n : ℕ = length c.args.script.now.supers in
    let placed : AllByRecursion (λ k. k < length c.args.script.now.supers)
    (map fs_of c.args.script.now.files) =
    placed_all fs_of n _ _ c.keeps.ensures.files.each
    (λ b h. elim (cases_Bool (nat_lt (fs_of b) n)) [
      | inl e ↦ ltb-true (fs_of b) n e
      | inr e ↦ absurd (rw (slice_get_past c.args.script.now.supers (fs_of b)
          (ltb-false (fs_of b) n e)) at h.on)
    ]) in
    subst (λ z. AllByRecursion (λ k. k < length c.as_slice-4.result.now) (map fs_of z))
    (sym files) (subst (λ (m : ℕ). AllByRecursion (λ k. k < m) (map fs_of c.args.script.now.files))
    (sym (ap (λ (l : List Super). length l) supers)) placed)

pub trail_by-requires-clause-legal : goal.trail_by-requires-clause-legal
trail_by-requires-clause-legal c =
    let for_files : IsForFiles c.args.script.now = c.keeps.ensures.template in
    run_legal (scene_of c.args.script.now for_files) c.args.script.now.ending c.args.ended.now
    (c.requires for_files) c.in_ok-settings.settings (c.in_ok-settings.ensures for_files) _
    (λ i. map (script_file_of ((c.as_slice-4.ensures.value
    ∙ (λ k. (c.script.view_is k).supers)) i))
    ((c.as_slice-3.ensures.value ∙ (λ k. (c.script.view_is k).files)) i)) _
    (c.as_slice-5.ensures.value ∙ ap (λ (e : EndedValue). e.inodes) c.ended.view_is)

pub returns : goal.returns
returns c =
    let tasks : c.as_slice-2.result.now ≡ c.args.script.now.tasks =
    c.as_slice-2.ensures.value ∙ (λ i. (c.script.view_is i).tasks) in
    let files : c.as_slice-3.result.now ≡ c.args.script.now.files =
    c.as_slice-3.ensures.value ∙ (λ i. (c.script.view_is i).files) in
    let supers : c.as_slice-4.result.now ≡ c.args.script.now.supers =
    c.as_slice-4.ensures.value ∙ (λ i. (c.script.view_is i).supers) in
    let inodes : c.as_slice-5.result.now ≡ c.args.ended.now.inodes =
    c.as_slice-5.ensures.value ∙ ap (λ (e : EndedValue). e.inodes) c.ended.view_is in
    let appended : c.as_slice.result.now ≡ c.args.ended.now.rules =
    c.as_slice.ensures.value ∙ ap (λ (e : EndedValue). e.rules) c.ended.view_is in
    let rules : c.in_ok-rules.rules ≡ c.args.script.now.rules ++ rules_in c.args.ended.now.rules =
    c.in_ok-rules.ensures
    ∙ (λ i. (c.script.view_is i).rules ++ rules_in (appended i)) in
    IfOk-weaker c.trail_by.result _ _
    (λ text h for_files. h ∙ (λ i. text_of (trail_lines (all_lines (map program_of (tasks i))
    (rules i) (c.in_ok-settings.ensures for_files i) (map (script_file_of (supers i)) (files i)) 0
    (inodes i))))) c.trail_by.ensures
