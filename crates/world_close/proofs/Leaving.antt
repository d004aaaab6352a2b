-- The final state of the closed lists and the tasks is the final state of the run.
use Rattle.std.proofs.Common.{◌≡◌, ℕ, ◌&&◌, ◌||◌, Bool, List, [], ◌∷◌, length, refl, ap, sym, ◌∙◌, arith, Some, suc}
use Rattle.std.specs.Prelude.{map, not, slice_get}
use Rattle.std.specs.List.{list_all, list_any}
use Rattle.std.proofs.lemmas.List.{length-map}
use Rattle.std.proofs.lemmas.Option.{same_Some}
use Rattle.world_close.proofs.laws_of_progress.Totals.{count_past, counted_when_reached}
use Rattle.measure_book.specs.Replay.{banks_of}
use Rattle.inode_events.specs.EndedInode.{ended_inode}
use Rattle.inode_events.specs.NewestFirst.{newest_first}
use Rattle.inode_events.specs.Semaphores.{left as count_left}
use Rattle.run_model.specs.Ended.{all_done, all_wait, left}
use Rattle.run_model.specs.EndedValue.{EndedTaskValue, appends, inodes_ended, tasks_ended}
use Rattle.run_model.specs.Scene.{Program, Scene, ScriptFile, inode_of}
use Rattle.world_close.specs.worlds.WorldConsts.{scene_of, script_file_of}
use Rattle.world_close.specs.worlds.Runs.{moment_of, position_of, program_of, programs_of}
use Rattle.world_close.specs.worlds.Tasks.{Tasked}
use Rattle.world_close.specs.worlds.World.{WorldInodeValue, journal_of}
use Rattle.world_close.specs.Closed.{ended_world_inode}
use Rattle.world_close.specs.Finished.{state_at}
use Rattle.world_close.proofs.Gets.{map_get}
use Rattle.world_close.proofs.Scening.{is_at}
use Rattle.world_close.specs.Leaves.{ClosedIsLeft, done_by, may_append, rests, task_left}

-- ---- the inodes

-- each inode ends as its journal says
inodes_are : (scene : Scene) (script_files : List ScriptFile) (world_inodes : List WorldInodeValue)
    → length script_files ≡ length world_inodes
    → ((k : ℕ) (x : ScriptFile) (s : WorldInodeValue) → slice_get script_files k ≡ Some x
    → slice_get world_inodes k ≡ Some s → inode_of scene x ≡ s.cell.inode)
    → map ended_world_inode world_inodes
    ≡ inodes_ended scene script_files (map journal_of world_inodes)
inodes_are scene [] [] even each = refl
inodes_are scene [] (s ∷ world_inodes) even each = absurd (omega arith)
inodes_are scene (x ∷ script_files) [] even each = absurd (omega arith)
inodes_are scene (x ∷ script_files) (s ∷ world_inodes) even each =
    let first = each 0 x s refl refl in
    let rest = inodes_are scene script_files world_inodes (omega arith) (λ k. each (suc k)) in
    λ i. ended_inode (sym first i) (journal_of s) ∷ rest i

-- ---- the tasks

tasks_are : (tasks : List Tasked)
    → map task_left tasks ≡ tasks_ended (map program_of tasks) (map position_of tasks)
tasks_are [] = refl
tasks_are (t ∷ tasks) = ap (λ (l : List EndedTaskValue). task_left t ∷ l) (tasks_are tasks)

-- `done_by` of all tasks is `all_done` of the run
dones : (tasks : List Tasked)
    → list_all done_by tasks ≡ all_done (map program_of tasks) (map position_of tasks)
dones [] = refl
dones (t ∷ tasks) = ap (λ (b : Bool). done_by t && b) (dones tasks)

-- no task can go on in the world exactly if none can in the run
waits : (left_of : ℕ → ℕ) (tasks : List Tasked)
    → list_all (rests left_of) tasks
    ≡ all_wait left_of (map program_of tasks) (map position_of tasks)
waits left_of [] = refl
waits left_of (t ∷ tasks) = ap (λ (b : Bool). rests left_of t && b) (waits left_of tasks)

-- some task can append a rule in the world exactly if one can in the run
grown : (tasks : List Tasked)
    → list_any may_append tasks
    ≡ list_any (λ (p : Program). list_any appends p.calls) (map program_of tasks)
grown [] = refl
grown (t ∷ tasks) = ap (λ (b : Bool). may_append t || b) (grown tasks)

-- ---- the world

pub closed_left : ClosedIsLeft
closed_left consts world_inodes list signals added tasks are finished = λ i. record {
  inodes = inodes i;
  list = list;
  banks = banks_of list;
  tasks = tasks_are tasks i;
  stuck = not (dones tasks i) && wait i;
  template = consts.settings.template;
  rules = added;
  base = length consts.base;
  grows = grown tasks i;
} where
  inodes : map ended_world_inode world_inodes
      ≡ inodes_ended (scene_of consts (programs_of tasks))
      (map (script_file_of consts) consts.each_inode) (map journal_of world_inodes)
  inodes =
      inodes_are (scene_of consts (programs_of tasks))
      (map (script_file_of consts) consts.each_inode) world_inodes
      (length-map consts.each_inode (script_file_of consts) ∙ sym are.even)
      (λ k x s a b. let w = is_at consts (programs_of tasks) world_inodes k x (journal_of s) are a
      (map_get journal_of world_inodes k s b) in
      sym w.inode_is ∙ ap (λ (t : WorldInodeValue). t.cell.inode)
      (same_Some w.there s (sym w.at ∙ b)))

  -- the posts that are left of each semaphore are the same by the journal as by the replies
  left_is : (sem : ℕ) → count_left sem (newest_first signals)
      ≡ left sem (map program_of tasks) (map position_of tasks)
  left_is sem =
      let both = counted_when_reached (scene_of consts (programs_of tasks))
      (moment_of (state_at world_inodes list signals added) tasks) finished.reached sem in
      let same = count_past sem signals in
      omega (arith, both.0, both.1, same.0, same.1)

  wait : list_all (rests (λ sem. count_left sem (newest_first signals))) tasks
      ≡ all_wait (λ sem. left sem (map program_of tasks) (map position_of tasks))
      (map program_of tasks) (map position_of tasks)
  wait =
      waits (λ sem. count_left sem (newest_first signals)) tasks
      ∙ ap (λ (l : ℕ → ℕ). all_wait l (map program_of tasks) (map position_of tasks))
      (λ i sem. left_is sem i)
