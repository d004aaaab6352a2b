-- New tasks belong to their world, and have the programs of the script before their first calls.
use Rattle.std.proofs.Common.{◌≡◌, ℕ, zero, suc, ◌<◌, true, List, [], ◌∷◌, length, map, Some, refl, ap, sym, subst, ◌∙◌, arith}
use Rattle.std.specs.Prelude.{slice_get}
use Rattle.std.specs.List.{list_all}
use Rattle.std.proofs.lemmas.List.{length-map}
use Rattle.std.proofs.lemmas.Option.{none-some, same_Some, slice_get_within}
use Rattle.run_model.specs.History.{start}
use Rattle.run_model.specs.Scene.{Program}
use Rattle.script_text.specs.Forms.{is_cred, is_line_call, is_task}
use Rattle.script_text.specs.declared.blocks.TaskBlock.{TaskBlock}
use Rattle.script_text.proofs.Holding.{left_true, right_true}
use Rattle.task_core.specs.worlds.WorldConsts.{WorldConsts}
use Rattle.task_core.specs.worlds.Runs as runs
use Rattle.task_core.specs.worlds.Runs.{AreTasks, position_of, programs_of}
use Rattle.task_core.specs.worlds.Tasks.{AreCallsOf, PassesValue, Tasked}
use Rattle.task_core.proofs.about_closes.Gets.{get_map, map_get}
use Rattle.task_core.specs.starts.Start.{AreFirstPasses}
use Rattle.script_text.specs.Forms.{IsScript}
use Rattle.script_text.specs.ScriptValue.{ScriptValue}
use Rattle.task_core.specs.worlds.WorldConsts.{InodeConsts}
use Rattle.task_core.specs.worlds.World.{WorldValue}
use Rattle.task_core.specs.starts.Start.{AreConstsOf, Begins}
use Rattle.script_scene.specs.Parts.{ArePartsOf}
use Rattle.script_scene.specs.Scene.{file_of}
use Rattle.script_scene.specs.declared.parts.ScriptParts.{ScriptParts}
use Rattle.script_start.specs.NewTasks.{AreNew, IsNew}
use Rattle.script_start.specs.Started.{HasStarted}
use Rattle.script_start.proofs.StartedScenes.{scene_is}
use Rattle.script_start.proofs.Fits.{calls_fit}
use Rattle.script_scene.specs.Scene.{program_of}

-- there is an item at each place
found : {A : Type 0} (xs : List A) (k : ℕ) → k < length xs → (x : A) × (slice_get xs k ≡ Some x)
found [] k below = absurd (omega (arith, below))
found (x ∷ xs) zero below = (x, refl)
found (x ∷ xs) (suc k) below = found xs k (omega (arith, below))

-- lists with the same item at each place are equal
same_lists : {A : Type 0} (xs ys : List A) → length xs ≡ length ys
    → ((k : ℕ) (x : A) → slice_get xs k ≡ Some x → slice_get ys k ≡ Some x) → xs ≡ ys
same_lists [] [] e each = refl
same_lists [] (y ∷ ys) e each = absurd (omega (arith, e))
same_lists (x ∷ xs) [] e each = absurd (omega (arith, e))
same_lists (x ∷ xs) (y ∷ ys) e each =
    let first : y ≡ x = same_Some y x (each 0 x refl) in
    let rest = same_lists xs ys (omega (arith, e)) (λ k. each (suc k)) in
    λ i. sym first i ∷ rest i

-- the calls of each task of a script are calls that a task of its world may have
task_fits : (files : ℕ) (blocks : List TaskBlock) → list_all (is_task files) blocks ≡ true
    → (k : ℕ) (block : TaskBlock) → slice_get blocks k ≡ Some block
    → AreCallsOf files block.calls
task_fits files [] h k block at = absurd (none-some block at)
task_fits files (b ∷ bs) h zero block at =
    let first = left_true (is_task files b) (list_all (is_task files) bs) h in
    subst (λ (x : TaskBlock). AreCallsOf files x.calls) (same_Some b block at)
    (calls_fit files b.calls
    (right_true (is_cred b.cred) (list_all (is_line_call files) b.calls) first))
task_fits files (b ∷ bs) h (suc k) block at =
    task_fits files bs (right_true (is_task files b) (list_all (is_task files) bs) h) k block at

module _ (blocks : List TaskBlock) (passes : List PassesValue) (tasks : List Tasked)
    (new : AreNew blocks passes tasks) (even : length passes ≡ length blocks) where
  -- each task is the new task of its block and passes
  at : (k : ℕ) (t : Tasked) → slice_get tasks k ≡ Some t
      → (block : TaskBlock) × ((slice_get blocks k ≡ Some block)
      × ((own : PassesValue) × ((slice_get passes k ≡ Some own) × IsNew k block own t)))
  at k t is =
      let below : k < length tasks = slice_get_within tasks k t is in
      let b = found blocks k (omega (arith, below, new.count)) in
      let p = found passes k (omega (arith, below, new.count, even)) in
      (b.0, (b.1, (p.0, (p.1, new.each k t is b.0 b.1 p.0 p.1))))

  pub are_tasks : (consts : WorldConsts) → AreFirstPasses consts passes
      → list_all (is_task (length consts.each_inode)) blocks ≡ true → AreTasks consts tasks
  are_tasks consts first forms = record {
    each = λ k t is.
        let a = at k t is in
        let own = a.1.1.0 in
        let n = a.1.1.1.1 in
        let given = first.each k own a.1.1.1.0 in record {
          number = n.number;
          task = n.task consts given.0 given.1
              (task_fits (length consts.each_inode) blocks forms k a.0 a.1.0);
        };
  }

  pub programs_are : programs_of tasks ≡ map program_of blocks
  programs_are = same_lists (programs_of tasks) (map program_of blocks)
      (length-map tasks runs.program_of ∙ new.count ∙ sym (length-map blocks program_of))
      (λ k x is.
      let t = get_map runs.program_of tasks k x is in
      let a = at k t.0 t.1.0 in
      map_get program_of blocks k a.0 a.1.0
      ∙ ap Some (sym a.1.1.1.1.program ∙ t.1.1))

  pub positions_are : map position_of tasks
      ≡ map (λ (p : Program). start) (map program_of blocks)
  positions_are = same_lists (map position_of tasks)
      (map (λ (p : Program). start) (map program_of blocks))
      (length-map tasks position_of ∙ new.count ∙ sym (length-map blocks program_of)
      ∙ sym (length-map (map program_of blocks) (λ (p : Program). start)))
      (λ k x is.
      let t = get_map position_of tasks k x is in
      let a = at k t.0 t.1.0 in
      map_get (λ (p : Program). start) (map program_of blocks) k (program_of a.0)
      (map_get program_of blocks k a.0 a.1.0)
      ∙ ap Some (sym a.1.1.1.1.position ∙ t.1.1))

-- the world and the tasks that are started with a script's parts are those of the script
pub started_is : (s : ScriptValue) → IsScript s → (p : ScriptParts) → ArePartsOf s p
    → (world : WorldValue) (passes : List PassesValue) (tasks : List Tasked) (count : ℕ)
    → count ≡ length p.tasks.items
    → AreConstsOf p.settings p.boot p.inodes.items p.supers.items p.places.items p.rules count
    world.consts
    → Begins world.consts world.state → AreFirstPasses world.consts passes
    → AreNew p.tasks.items passes tasks → HasStarted s world tasks p.ending
started_is s kept p parts world passes tasks count count_is is begins first new =
    let blocks = p.tasks.items in
    let even : length passes ≡ length blocks = first.count ∙ is.tasks ∙ count_is in
    let programs = programs_are blocks passes tasks new even in
    let each_inode : length world.consts.each_inode ≡ length s.files =
    sym (length-map world.consts.each_inode (λ (x : InodeConsts). (x.path, x.birth)))
    ∙ ap length (is.files ∙ parts.inodes) ∙ length-map s.files file_of in
    let forms : list_all (is_task (length world.consts.each_inode)) blocks ≡ true =
    (λ i. list_all (is_task (each_inode i)) (parts.tasks i)) ∙ kept.tasks.forms in record {
      scene = λ for_files. scene_is s p world.consts count (programs_of tasks) for_files parts is
          (programs ∙ ap (map program_of) parts.tasks);
      start = λ i. record {
        state = begins (programs_of tasks) i;
        positions = (positions_are blocks passes tasks new even
            ∙ ap (map (λ (q : Program). start)) (sym programs)) i;
      };
      each = are_tasks blocks passes tasks new even world.consts first forms;
      count = new.count ∙ sym count_is ∙ sym is.tasks;
      all = new.count ∙ ap length parts.tasks;
      ending = parts.ending;
    }
