-- The run that closing the lists yields.
use Rattle.std.proofs.Common.{◌≡◌, ℕ, ◌+◌, ◌<◌, ◌≤◌, List, [], ◌∷◌, ◌++◌, length, ap, sym, subst, ◌∙◌, arith, Some, reverse}
use Rattle.std.specs.Prelude.{All, map, slice_get}
use Rattle.std.specs.List.{AllZip}
use Rattle.std.proofs.lemmas.List.{length-map, reverse-append}
use Rattle.std.proofs.lemmas.List.Elements.{All-head, All-map, All-push, All-same, All-tail, All-weaker}
use Rattle.std.proofs.lemmas.Option.{same_Some}
use Rattle.grow_list.specs.Shown.{Passed}
use Rattle.grow_list.proofs.Prefixes.{prefix_refl}
use Rattle.ima_templates.specs.declared.entry.Entry.{Entry}
use Rattle.inode_events.specs.Callers.{caller_of}
use Rattle.inode_events.specs.NewestFirst.{newest_first}
use Rattle.inode_events.specs.Inode.{Inode}
use Rattle.inode_events.specs.Legal.{EachFollows}
use Rattle.inode_events.specs.declared.told.Event.{Event}
use Rattle.world_model.specs.laws_of_journals.Own.{IsOwned}
use Rattle.world_model.specs.laws_of_progress.Resting.{AreLegal, IsReached, Resting}
use Rattle.world_model.proofs.laws_of_progress.Ends.{ends, paid_when}
use Rattle.world_model.specs.laws_of_runs.Logs.{log}
use Rattle.world_model.specs.laws_of_runs.Steps.{Rises}
use Rattle.world_model.proofs.laws_of_runs.Joining.{joined}
use Rattle.policy_cell.specs.declared.cell.RuleEntry.{RuleEntry}
use Rattle.world_model.specs.laws_of_runs.Checks.{SeesMore, seen_of}
use Rattle.world_model.specs.laws_of_runs.Moments.{seen_in}
use Rattle.world_model.proofs.laws_of_runs.Checking.{law_fits_are_suited}
use Rattle.world_model.specs.model.History.{Position, own, own_rules, own_signals, position}
use Rattle.world_model.specs.model.Scene.{Program, Scene, ScriptFile, inode_of, mode_of}
use Rattle.world_model.specs.model.Served.{IsServed, RulesRise, Run, Served, events_of, rules_of}
use Rattle.world_model.specs.model.Turns.{State, run_at}
use Rattle.world_model.specs.laws_of_progress.NextSteps.{IsFit}
use Rattle.world_model.specs.laws_of_progress.Rests.{AreFit}
use Rattle.world_model.specs.laws_of_progress.ScriptFiles.{IsWithin}
use Rattle.world_model.proofs.laws_of_progress.Rests.{rests}
use Rattle.world_model.specs.WorldConsts.{WorldConsts, mode_in, scene_of, script_file_of}
use Rattle.world_model.specs.Runs.{AreTasks, HasMade, moment_of, position_of, program_of, programs_of}
use Rattle.world_model.specs.Tasks.{PassesValue, Tasked}
use Rattle.world_model.specs.World.{WorldInodeValue, journal_of}
use Rattle.world_close.specs.Closed.{AreWorldInodes, WorldClosed, WorldInodeClosed}
use Rattle.world_close.specs.Finished.{ClosedIsFinished, FinishedEnds, FinishedIsShown, HaveMade, state_at}
use Rattle.world_close.proofs.Gets.{all_by_get, get_map}
use Rattle.world_close.proofs.Scening.{IsAt, all_booked, all_legal, is_at, lists_even, zip_at}

-- ---- a task

-- the task of this number, with its program and its position
record IsTaskAt (tasks : List Tasked) (n : ℕ) (p : Program) (t : Position) : Type 0 where
  pub task : Tasked
  pub at : slice_get tasks n ≡ Some task
  pub program : program_of task ≡ p
  pub stands : position_of task ≡ t

task_at : (tasks : List Tasked) (n : ℕ) (p : Program) (t : Position)
    → slice_get (programs_of tasks) n ≡ Some p → slice_get (map position_of tasks) n ≡ Some t
    → IsTaskAt tasks n p t
task_at tasks n p t a b =
    let x = get_map program_of tasks n p a in
    let y = get_map position_of tasks n t b in
    record {
      task = x.0;
      at = x.1.0;
      program = x.1.1;
      stands = ap position_of (same_Some x.0 y.0 (sym x.1.0 ∙ y.1.0)) ∙ y.1.1;
    }

-- a run has seen all of its own lists
sees_all : (s : State) (positions : List Position)
    → SeesMore (seen_in s) (seen_of (run_at (record { state = s; positions = positions })))
sees_all s positions = record {
  journals = λ i journal e. record {
    longer = journal;
    there = e;
    before = prefix_refl journal;
  };
  added = prefix_refl s.added;
}

-- the task is served, and the places in its answers increase
record IsServedRising (scene : Scene) (run : Run) (n : ℕ) (p : Program) (t : Position)
    : Type 0 where
  pub served : IsServed scene run n p t
  pub rise : Rises (log (mode_of scene) n p served.history)

-- a task that has looked at all lists is served
served_task : (consts : WorldConsts) (s : State) (tasks : List Tasked) (n : ℕ) (task : Tasked)
    → task.number ≡ n → HasMade consts s task
    → IsServedRising (scene_of consts (programs_of tasks)) (run_at (moment_of s tasks)) n
    (program_of task) (position_of task)
served_task consts s tasks n task number made = record {
  served = record {
    history = made.history;
    stands = made.stands;
    suited = law_fits_are_suited (scene_of consts (programs_of tasks)) (program_of task)
        (seen_in s) (run_at (moment_of s tasks)) made.history
        (sees_all s (map position_of tasks)) (made.checks (programs_of tasks));
    events = λ i journal e. subst (λ (k : ℕ). events_of k journal
        ≡ own (mode_in consts) k (program_of task) i made.history) number
        (made.events i journal e);
    rules = subst (λ (k : ℕ). rules_of k s.added
        ≡ own_rules (mode_in consts) k (program_of task) made.history) number made.rules;
  };
  rise = subst (λ (k : ℕ). Rises (log (mode_in consts) k (program_of task) made.history)) number
      made.rises.rises;
}

-- the task of this number in the scene and the run is served
served_at : (consts : WorldConsts) (s : State) (tasks : List Tasked) → AreTasks consts tasks
    → HaveMade consts s tasks → (n : ℕ) (p : Program) (t : Position) → IsTaskAt tasks n p t
    → IsServedRising (scene_of consts (programs_of tasks)) (run_at (moment_of s tasks)) n p t
served_at consts s tasks are made n p t x =
    subst (λ (q : Program). IsServedRising (scene_of consts (programs_of tasks))
    (run_at (moment_of s tasks)) n q t) x.program
    (subst (λ (u : Position). IsServedRising (scene_of consts (programs_of tasks))
    (run_at (moment_of s tasks)) n (program_of x.task) u) x.stands
    (served_task consts s tasks n x.task (are.each n x.task x.at).number (made n x.task x.at)))

-- ---- all inodes

-- a property of all events of a list holds of them in reverse order
all_past : (P : Event → Type 0) (list : List Event) → All P list → All P (newest_first list)
unfolding newest_first
all_past P [] all = all
all_past P (e ∷ list) all =
    All-same P (reverse (e ∷ list)) (reverse list ++ e ∷ []) (reverse-append (e ∷ []) list)
    (All-push P (reverse list) e (all_past P list (All-tail P e list all))
    (All-head P e list all))

-- the journal of an inode is legal, and its events are of the tasks or births
record IsLegalAt (inode : Inode) (journal : List Event) (tasks : ℕ) : Type 0 where
  pub follows : EachFollows inode (newest_first journal)
  pub owned : IsOwned (newest_first journal)
  pub within : All (λ (e : Event). caller_of e ≤ tasks) journal

legal_at : (s : WorldInodeValue) (q : Passed Entry) (tasks : ℕ) → s.cell.callers ≡ tasks + 1
    → WorldInodeClosed s q → IsLegalAt s.cell.inode s.cell.list tasks
legal_at s q tasks callers closed = record {
  follows = closed.legal.1;
  owned = closed.owned;
  within = All-weaker (λ (e : Event). caller_of e < s.cell.callers)
      (λ (e : Event). caller_of e ≤ tasks) (λ e l. within (caller_of e) l) s.cell.list
      closed.within;
} where
  within : (c : ℕ) → c < s.cell.callers → c ≤ tasks
  within c l = omega (arith, callers)

-- the journal of number i is legal
legal_in : (consts : WorldConsts) (programs : List Program) (world_inodes : List WorldInodeValue)
    (inodes : List (Passed Entry)) → AreWorldInodes consts world_inodes
    → AllZip WorldInodeClosed world_inodes inodes
    → (i : ℕ) (script_file : ScriptFile) (journal : List Event)
    → slice_get (scene_of consts programs).script_files i ≡ Some script_file
    → slice_get (map journal_of world_inodes) i ≡ Some journal
    → IsLegalAt (inode_of (scene_of consts programs) script_file) journal consts.tasks
legal_in consts programs world_inodes inodes are closed i script_file journal a b =
    at (is_at consts programs world_inodes i script_file journal are a b) where
      at : IsAt (scene_of consts programs) world_inodes i script_file journal
          → IsLegalAt (inode_of (scene_of consts programs) script_file) journal consts.tasks
      at w =
          let q = zip_at WorldInodeClosed world_inodes inodes i w.there closed w.at in
          subst (λ (x : Inode × List Event). IsLegalAt x.0 x.1 consts.tasks)
          (λ k. (w.inode_is k, w.journal_is k))
          (legal_at w.there q.0 consts.tasks (are.each i w.there w.at).callers q.1.1)

-- all events of the journals are of the tasks, or births
all_within : (consts : WorldConsts) (world_inodes : List WorldInodeValue)
    (inodes : List (Passed Entry))
    (count : ℕ) → consts.tasks ≡ count → AreWorldInodes consts world_inodes
    → AllZip WorldInodeClosed world_inodes inodes
    → All (λ (journal : List Event). All (λ (e : Event). caller_of e ≤ count) journal)
    (map journal_of world_inodes)
all_within consts world_inodes inodes count same are closed =
    all_by_get (λ (journal : List Event). All (λ (e : Event). caller_of e ≤ count) journal)
    (map journal_of world_inodes)
    (λ i journal b. at i journal (get_map journal_of world_inodes i journal b)) where
      at : (i : ℕ) (journal : List Event)
          → (s : WorldInodeValue) × ((slice_get world_inodes i ≡ Some s) × (journal_of s ≡ journal))
          → All (λ (e : Event). caller_of e ≤ count) journal
      at i journal x =
          let q = zip_at WorldInodeClosed world_inodes inodes i x.0 closed x.1.0 in
          subst (λ (l : List Event). All (λ (e : Event). caller_of e ≤ count) l) x.1.1
          (legal_at x.0 q.0 count ((are.each i x.0 x.1.0).callers
          ∙ ap (λ (n : ℕ). n + 1) same) q.1.1).within

-- along each journal the rules that checks count never decrease
all_rise : (consts : WorldConsts) (world_inodes : List WorldInodeValue)
    → AreWorldInodes consts world_inodes
    → All (λ (journal : List Event). RulesRise (length consts.base) (newest_first journal))
    (map journal_of world_inodes)
all_rise consts world_inodes are =
    all_by_get (λ (journal : List Event). RulesRise (length consts.base) (newest_first journal))
    (map journal_of world_inodes)
    (λ i journal b. at i journal (get_map journal_of world_inodes i journal b)) where
      at : (i : ℕ) (journal : List Event)
          → (s : WorldInodeValue) × ((slice_get world_inodes i ≡ Some s) × (journal_of s ≡ journal))
          → RulesRise (length consts.base) (newest_first journal)
      at i journal x =
          subst (λ (l : List Event). RulesRise (length consts.base) (newest_first l)) x.1.1
          (are.each i x.0 x.1.0).rise.rise

-- ---- all tasks

-- the calls of each task are those of a script
all_fit : (consts : WorldConsts) (tasks : List Tasked) → AreTasks consts tasks
    → AreFit (scene_of consts (programs_of tasks))
all_fit consts tasks are n p a k c e = at (get_map program_of tasks n p a) where
  at : (t : Tasked) × ((slice_get tasks n ≡ Some t) × (program_of t ≡ p))
      → IsFit c × IsWithin (length (scene_of consts (programs_of tasks)).script_files) c
  at x =
      let fit = (are.each n x.0 x.1.0).task.played.calls k c
      (ap (λ (q : Program). slice_get q.calls k) x.1.1 ∙ e) in (
        fit.0,
        subst (λ (m : ℕ). IsWithin m c)
            (sym (length-map consts.each_inode (script_file_of consts))) fit.1,
      )

-- no task has added to the measurement list
all_unlisted : (consts : WorldConsts) (tasks : List Tasked) → AreTasks consts tasks
    → All (λ (q : Passed Entry). q.mine ≡ []) (map (λ (p : PassesValue). p.book)
    (map (λ (t : Tasked). t.passes) tasks))
all_unlisted consts tasks are =
    All-map (λ (q : Passed Entry). q.mine ≡ []) (λ (p : PassesValue). p.book)
    (map (λ (t : Tasked). t.passes) tasks)
    (All-map (λ (p : PassesValue). p.book.mine ≡ []) (λ (t : Tasked). t.passes) tasks
    (all_by_get (λ (t : Tasked). t.passes.book.mine ≡ []) tasks
    (λ n t e. (are.each n t e).task.played.unlisted)))

-- ---- the run

abbrev served_run : (consts : WorldConsts) (world_inodes : List WorldInodeValue) (list : List Entry)
    (signals : List Event) (added : List RuleEntry) (tasks : List Tasked)
    → AreWorldInodes consts world_inodes → AreTasks consts tasks → length tasks ≡ consts.tasks
    → HaveMade consts (state_at world_inodes list signals added) tasks
    → WorldClosed consts world_inodes list signals added (map (λ (t : Tasked). t.passes) tasks)
    → Served (scene_of consts (programs_of tasks))
    (run_at (moment_of (state_at world_inodes list signals added) tasks))
served_run consts world_inodes list signals added tasks are each count made closed = record {
  journals = lists_even consts (programs_of tasks) world_inodes are;
  positions = length-map tasks position_of ∙ sym (length-map tasks program_of);
  tasks = λ n p t a b. (served_at consts (state_at world_inodes list signals added) tasks each made
      n p t (task_at tasks n p t a b)).served;
  no_other_events = all_within consts world_inodes closed.inodes (length (programs_of tasks))
      (sym count ∙ sym (length-map tasks program_of)) are closed.closed;
  no_other_rules = subst (λ (m : ℕ). All (λ (r : RuleEntry). r.who.task < m) added)
      (sym count ∙ sym (length-map tasks program_of)) closed.ruled;
  rules_rise = all_rise consts world_inodes are;
}

reached_moment : (consts : WorldConsts) (world_inodes : List WorldInodeValue) (list : List Entry)
    (signals : List Event) (added : List RuleEntry) (tasks : List Tasked)
    → AreWorldInodes consts world_inodes → AreTasks consts tasks → length tasks ≡ consts.tasks
    → HaveMade consts (state_at world_inodes list signals added) tasks
    → WorldClosed consts world_inodes list signals added (map (λ (t : Tasked). t.passes) tasks)
    → IsReached (scene_of consts (programs_of tasks))
    (moment_of (state_at world_inodes list signals added) tasks)
reached_moment consts world_inodes list signals added tasks are each count made closed =
    record { legal = legal; tasks = λ n p t a b. rest n p t a (task_at tasks n p t a b) } where
      scene : Scene
      scene = scene_of consts (programs_of tasks)

      programs : length (programs_of tasks) ≡ consts.tasks
      programs = length-map tasks program_of ∙ count

      legal : AreLegal (scene_of consts (programs_of tasks))
          (state_at world_inodes list signals added) (map position_of tasks)
      legal = record {
        positions_even = length-map tasks position_of ∙ sym (length-map tasks program_of);
        follows = λ i script_file journal a b.
            let l = legal_in consts (programs_of tasks) world_inodes closed.inodes are
            closed.closed i script_file journal a b in (
              l.follows,
              l.owned,
              all_past (λ (e : Event). caller_of e ≤ length (programs_of tasks)) journal
                  (subst (λ (m : ℕ). All (λ (e : Event). caller_of e ≤ m) journal) (sym programs)
                  l.within),
            );
        are_signals = closed.are_signals;
        signed = subst (λ (m : ℕ). All (λ (e : Event). (0 < caller_of e) × (caller_of e ≤ m))
            signals) (sym programs) closed.signed;
      }

      rest : (n : ℕ) (p : Program) (t : Position) → slice_get (programs_of tasks) n ≡ Some p
          → IsTaskAt tasks n p t
          → Resting (scene_of consts (programs_of tasks)) (state_at world_inodes list signals added)
          n p t
      rest n p t a x =
          let h = made n x.task x.at in
          let number = (each.each n x.task x.at).number in
          rests (scene_of consts (programs_of tasks)) (state_at world_inodes list signals added)
          (map position_of tasks) n p t h.history (all_fit consts tasks each)
          (lists_even consts (programs_of tasks) world_inodes are) legal a
          (ap (λ (q : Program). position (mode_in consts) q h.history) (sym x.program)
          ∙ h.stands ∙ x.stands)
          (λ i journal e. subst (λ (y : ℕ × Program). events_of y.0 journal
          ≡ own (mode_in consts) y.0 y.1 i h.history) (λ k. (number k, x.program k))
          (h.events i journal e))
          (subst (λ (y : ℕ × Program). events_of y.0 signals
          ≡ own_signals (mode_in consts) y.0 y.1 h.history) (λ k. (number k, x.program k))
          h.signals)

-- proof of `ClosedIsFinished`
pub finished : ClosedIsFinished
finished consts world_inodes list signals added tasks are each count made closed = record {
  legal = all_legal consts (programs_of tasks) world_inodes closed.inodes are closed.closed;
  merged =
      joined (scene_of consts (programs_of tasks))
      (run_at (moment_of (state_at world_inodes list signals added) tasks)) closed.inodes
      (map (λ (p : PassesValue). p.book) (map (λ (t : Tasked). t.passes) tasks)) closed.book
      (all_booked consts (programs_of tasks) world_inodes closed.inodes are closed.closed)
      (all_unlisted consts tasks each)
      (length-map (map (λ (t : Tasked). t.passes) tasks) (λ (p : PassesValue). p.book)
      ∙ length-map tasks (λ (t : Tasked). t.passes) ∙ sym (length-map tasks program_of))
      (served_run consts world_inodes list signals added tasks are each count made closed)
      (λ n p t a b. (served_at consts (state_at world_inodes list signals added) tasks each made
      n p t (task_at tasks n p t a b)).rise);
  served = served_run consts world_inodes list signals added tasks are each count made closed;
  reached = reached_moment consts world_inodes list signals added tasks are each count made closed;
}

-- proof of `FinishedEnds`
pub finished_ends : FinishedEnds
finished_ends scene m f still =
    (ends scene m (record { legal = f.reached.legal; tasks = f.reached.tasks; still = still })).1

-- proof of `FinishedIsShown`
pub finished_shown : FinishedIsShown
finished_shown scene m ending f through = record {
  legal = f.legal;
  merged = f.merged;
  served = f.served;
  ended = record { paid = paid_when scene m f.reached; through = through };
}
