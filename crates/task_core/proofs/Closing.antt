-- A world is taken apart at its end.
use Rattle.std.proofs.Common.{◌≡◌, ◌≤◌, ℕ, ◌-◌, ◌&&◌, Bool, false, List, length, ap, sym, ◌∙◌, subst, arith, Some}
use Rattle.std.specs.Prelude.{map, not, slice_get}
use Rattle.std.specs.List.{list_any}
use Rattle.std.proofs.lemmas.List.{length-map}
use Rattle.grow_list.specs.Shown.{Grown}
use Rattle.measure_book.specs.Replay.{banks_of}
use Rattle.ima_templates.specs.declared.entry.Entry.{Entry}
use Rattle.inode_events.specs.NewestFirst.{newest_first}
use Rattle.inode_events.specs.Semaphores.{left}
use Rattle.inode_events.specs.declared.settings.Settings.{Settings}
use Rattle.inode_events.specs.declared.told.Event.{Event}
use Rattle.policy_cell.specs.Policy.{PolicyValue, in_force}
use Rattle.policy_rules.specs.declared.access.Super.{Super}
use Rattle.run_model.specs.EndedValue.{EndedValue}
use Rattle.run_model.specs.Turns.{State}
use Rattle.world_model.specs.WorldConsts.{WorldConsts, scene_of}
use Rattle.world_model.specs.Runs.{AreTasks, moment_of, programs_of}
use Rattle.world_model.specs.Tasks.{ArePassesOf, PassesValue, Tasked}
use Rattle.world_model.specs.World.{AreRulesOf, AreSignalsOf, IsBookOf, WorldInodeValue, inode_consts_of}
use Rattle.world_close.specs.Closed.{AreWorldInodes, WorldClosed, ended_world_inode}
use Rattle.world_close.specs.Finished.{HaveMade}
use Rattle.world_close.proofs.Gets.{get_map}
use Rattle.world_locks.proofs.about_acts.Looked.{force_count}
use Rattle.world_model.specs.Parts.{AreParts, consts_by, state_by}
use Rattle.world_close.proofs.Ending.{closed_ended}
use Rattle.world_close.specs.Leaves.{are_stuck, left_by, may_append, task_left}
use Rattle.world_close.specs.Settled.{HasEnded}

module _ (settings : Settings) (world_inodes : List WorldInodeValue) (supers : List Super)
    (book : Grown Entry) (sems : Grown Event) (rules : PolicyValue) (count : ℕ)
    (consts : WorldConsts)
    (is : consts_by settings world_inodes supers book sems rules count ≡ consts) where
  -- the parts belong to the constants
  module _ (parts : AreParts (consts_by settings world_inodes supers book sems rules count)
      world_inodes book sems rules) where
    pub are_world_inodes : AreWorldInodes consts world_inodes
    are_world_inodes = subst (λ (f : WorldConsts). AreWorldInodes f world_inodes) is (record {
      even = sym (length-map world_inodes inode_consts_of);
      each = parts.world_inodes;
    })

    pub is_book : IsBookOf consts book
    is_book = subst (λ (f : WorldConsts). IsBookOf f book) is parts.book

    pub are_signals : AreSignalsOf consts sems
    are_signals = subst (λ (f : WorldConsts). AreSignalsOf f sems) is parts.sems

    pub are_rules : AreRulesOf consts rules
    are_rules = subst (λ (f : WorldConsts). AreRulesOf f rules) is parts.rules

    -- the final state of the closed lists and the tasks is the final state of the run
    pub ended_by : (tasks : List Tasked) (state : State) (e : EndedValue)
        → state_by world_inodes book sems rules ≡ state → AreTasks consts tasks
        → length tasks ≡ consts.tasks → HaveMade consts state tasks
        → WorldClosed consts world_inodes book.list sems.list rules.appended.list
        (map (λ (t : Tasked). t.passes) tasks)
        → e.inodes ≡ map ended_world_inode world_inodes → e.list ≡ book.list
        → e.banks ≡ banks_of book.list → e.tasks ≡ map task_left tasks
        → e.stuck ≡ are_stuck (λ sem. left sem (newest_first sems.list)) tasks
        → e.template ≡ settings.template → e.rules ≡ rules.appended.list
        → e.base ≡ length rules.base → e.grows ≡ list_any may_append tasks
        → HasEnded (scene_of consts (programs_of tasks)) (moment_of state tasks) e
    ended_by tasks state e at of all made closed inodes list banks ended stuck template own base
        grows =
        subst (λ (x : State). HasEnded (scene_of consts (programs_of tasks))
        (moment_of x tasks) e) at
        (closed_ended consts world_inodes book.list sems.list rules.appended.list tasks e
        are_world_inodes of all
        (subst (λ (x : State). HaveMade consts x tasks) (sym at) made) closed
        ((λ i. record {
          inodes = inodes i;
          list = list i;
          banks = banks i;
          tasks = ended i;
          stuck = stuck i;
          template = template i;
          rules = own i;
          base = base i;
          grows = grows i;
        }) ∙ ap (λ (f : WorldConsts). left_by f world_inodes book.list sems.list rules.appended.list
        tasks) is))

-- the number of the script's rules is that of all in force less the appended ones
pub base_is : (p : PolicyValue) (n m : ℕ) → n ≡ length (in_force p)
    → m ≡ length p.appended.list → n - m ≡ length p.base
base_is p n m all own = omega (arith, all, own, force_count p)

-- no more rules were appended than are in force
pub fewer_own : (p : PolicyValue) (n m : ℕ) → n ≡ length (in_force p)
    → m ≡ length p.appended.list → m ≤ n
fewer_own p n m all own = omega (arith, all, own, force_count p)

-- ---- the tasks

-- the tasks' passes belong to the constants
pub passes_are : (consts : WorldConsts) (tasks : List Tasked) (passes : List PassesValue)
    → AreTasks consts tasks → passes ≡ map (λ (t : Tasked). t.passes) tasks → (n : ℕ)
    → (p : PassesValue) → slice_get passes n ≡ Some p → ArePassesOf consts n p
passes_are consts tasks passes are all n p at =
    by (get_map (λ (t : Tasked). t.passes) tasks n p
    (ap (λ (l : List PassesValue). slice_get l n) (sym all) ∙ at)) where
      by : (t : Tasked) × ((slice_get tasks n ≡ Some t) × (t.passes ≡ p)) → ArePassesOf consts n p
      by t =
          let nth = are.each n t.0 t.1.0 in
          subst (λ (x : ℕ × PassesValue). ArePassesOf consts x.0 x.1)
          (λ i. (nth.number i, t.1.1 i)) nth.task.played.passes

-- if some task isn't done, the run is stuck exactly if none can go on
pub stuck_when : (done rest d r : Bool) → done ≡ false → done ≡ d → rest ≡ r
    → rest ≡ (not d && r)
stuck_when done rest d r open_yet is e =
    e ∙ ap (λ (b : Bool). not b && r) (sym open_yet ∙ is)
