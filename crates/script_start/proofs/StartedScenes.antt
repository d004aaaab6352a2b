-- A world that was started with the parts of a script has the script's scene.
use Rattle.std.proofs.Common.{◌≡◌, ℕ, List, [], ◌∷◌, length, map, drop, get_or, refl, ap, ◌∙◌, arith}
use Rattle.run_model.specs.events.declared.image.Image.{Image}
use Rattle.policy_rules.specs.declared.access.Super.{Super}
use Rattle.run_model.specs.Scene.{Program, no_super}
use Rattle.script_text.specs.ScriptValue.{ScriptValue}
use Rattle.script_text.specs.declared.blocks.FileBlock.{FileBlock}
use Rattle.task_core.specs.worlds.WorldConsts as worlds
use Rattle.task_core.specs.worlds.WorldConsts.{InodeConsts, WorldConsts}
use Rattle.task_core.specs.starts.Start.{AreConstsOf}
use Rattle.script_scene.specs.Parts.{ArePartsOf}
use Rattle.script_scene.specs.Scene as scripts
use Rattle.script_scene.specs.Scene.{IsForFiles, file_of, fs_of, program_of}
use Rattle.script_scene.specs.declared.parts.ScriptParts.{ScriptParts}

-- the files of the scene are those of the script, on their file systems
script_files_are : (consts : WorldConsts) (each_inode : List InodeConsts) (files : List FileBlock)
    → map (λ (s : InodeConsts). (s.path, s.birth)) each_inode ≡ map file_of files
    → map (λ (s : InodeConsts). s.place) each_inode ≡ map fs_of files
    → map (worlds.script_file_of consts) each_inode
    ≡ map (scripts.script_file_of consts.supers) files
script_files_are consts [] [] e p = refl
script_files_are consts [] (b ∷ bs) e p = absurd (omega (arith, ap length e))
script_files_are consts (s ∷ ss) [] e p = absurd (omega (arith, ap length e))
script_files_are consts (s ∷ ss) (b ∷ bs) e p =
    let file : (s.path, s.birth) ≡ (b.path, b.image) =
    ap (λ (l : List (List ℕ × Image)). get_or l 0 (s.path, s.birth)) e in
    let place : s.place ≡ b.fs = ap (λ (l : List ℕ). get_or l 0 0) p in
    let rest = script_files_are consts ss bs (ap (drop 1) e) (ap (drop 1) p) in
    λ i. record {
      path = (file i).0;
      birth = (file i).1;
      place = get_or consts.supers (place i) no_super;
    } ∷ rest i

-- the scene of the started world is that of the script
pub scene_is : (s : ScriptValue) (p : ScriptParts) (consts : WorldConsts) (count : ℕ)
    (programs : List Program) (for_files : IsForFiles s) → ArePartsOf s p
    → AreConstsOf p.settings p.boot p.inodes.items p.supers.items p.places.items p.rules
    count consts → programs ≡ map program_of s.tasks
    → worlds.scene_of consts programs ≡ scripts.scene_of s for_files
scene_is s p consts count programs for_files parts is same =
    let supers : consts.supers ≡ s.supers = is.supers ∙ parts.supers in
    let script_files = script_files_are consts consts.each_inode s.files (is.files ∙ parts.inodes)
    (is.places ∙ parts.places)
    ∙ ap (λ (l : List Super). map (scripts.script_file_of l) s.files) supers in
    λ i. record {
      settings = (is.settings ∙ parts.settings for_files) i;
      boot = (is.boot ∙ parts.boot) i;
      script_files = script_files i;
      rules = (is.base ∙ parts.rules) i;
      programs = same i;
    }
