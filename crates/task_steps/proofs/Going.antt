-- A deed on one inode is a turn of its task.
use Rattle.std.proofs.Common.{◌≡◌, ℕ, List, [], ◌∷◌, length, Option, Some, None, refl, sym, ◌∙◌, ap, subst}
use Rattle.std.specs.Prelude.{slice_get, unwrap_or}
use Rattle.std.proofs.lemmas.Option.{get_or_from_slice_get}
use Rattle.inode_events.specs.Asked.{outcome}
use Rattle.inode_events.specs.Checks.{no_action}
use Rattle.inode_events.specs.NewestFirst.{newest_first}
use Rattle.inode_events.specs.declared.deed.Deed.{Deed}
use Rattle.inode_events.specs.declared.told.Event.{Event}
use Rattle.inode_events.specs.declared.told.Told.{Told}
use Rattle.call_steps.specs.CallState.{Step}
use Rattle.call_steps.specs.CallState.{Does}
use Rattle.call_steps.specs.Steps.{given}
use Rattle.policy_rules.specs.declared.access.Action.{Action}
use Rattle.run_model.specs.History.{Answer, Position, plain_answer, resume, step_at, who_at}
use Rattle.run_model.specs.Scene.{Program, ScriptFile}
use Rattle.run_model.specs.Turns.{State, journal_at, resume_told, state_on, step_does, step_due, step_event, step_task, turn_of}
use Rattle.run_model.specs.declared.turn.Turn.TheVariants as turns
use Rattle.task_steps.specs.Acting.{IsPlacedAt}
use Rattle.task_steps.specs.Turning.{Fails, Stops, Tells, answer_of, turned_to}
use Rattle.task_steps.specs.declared.answers.StepResult.{StepResult}
use Rattle.task_steps.specs.worlds.WorldConsts.{InodeConsts, WorldConsts, inode_in, mode_in, scene_of, script_file_of}
use Rattle.task_steps.specs.worlds.Tasks.{HasPlayed, PassesValue, Tasked, action_by}
use Rattle.task_steps.specs.worlds.declared.hash_state.HashState.{HashState}
use Rattle.task_steps.proofs.about_worlds.Blocking.{none_is_played}
use Rattle.task_steps.proofs.about_worlds.Eventing.{event_is_played, get_map}
use Rattle.task_steps.specs.worlds.Events.{EventOn}
use Rattle.task_steps.specs.worlds.Plays.{HasResumed, IsStepFor, task_after}

module _ (consts : WorldConsts) (t : Tasked) (i : ℕ) (s : InodeConsts) (d : Deed) (old new : State)
    (passes : PassesValue) (g : HashState) (o : Option Told)
    (e : EventOn consts i s (who_at t.number t.task_state.program t.task_state.position.call_state)
    d old new t.passes passes t.hash_state g o)
    (there : slice_get consts.each_inode i ≡ Some s)
    (tells : o ≡ outcome (inode_in consts s) old.list d (newest_first e.journal)) where
  abbrev p : Program
  p = t.task_state.program

  journal_is : journal_at old i ≡ e.journal
  journal_is = get_or_from_slice_get old.journals i e.journal [] e.journal_at

  outcome_is : outcome (inode_in consts s) old.list d (newest_first (journal_at old i)) ≡ o
  outcome_is =
      ap (λ (xs : List Event). outcome (inode_in consts s) old.list d (newest_first xs)) journal_is
      ∙ sym tells

  abbrev resumed : Action → ℕ → Position
  resumed action rules =
      resume_told (mode_in consts) p t.task_state.position (length e.journal) action rules o

  -- the turn of the task makes this event
  pub goes_event : (programs : List Program) (action : Action) (rules : ℕ)
      → step_event (scene_of consts programs) t.number p old t.task_state.position i
      (inode_in consts s) d action rules ≡ turned_to new (resumed action rules) (turn_of o)
  goes_event programs action rules =
      let who = who_at t.number p t.task_state.position.call_state in
      ap (λ (x : Option Told). turned_to (state_on old i (inode_in consts s) who d x)
      (resume_told (mode_in consts) p t.task_state.position (length (journal_at old i)) action
      rules x) (turn_of x)) outcome_is
      ∙ ap (λ (k : ℕ). turned_to (state_on old i (inode_in consts s) who d o)
      (resume_told (mode_in consts) p t.task_state.position k action rules o) (turn_of o))
      (ap length journal_is)
      ∙ ap (λ (x : State). turned_to x (resumed action rules) (turn_of o)) (sym e.state)

  -- the turn of a step that does this deed
  goes_does : step_at p t.task_state.position.call_state ≡ Some (Does i d)
      → (programs : List Program)
      → step_task (scene_of consts programs) t.number p old t.task_state.position
      ≡ turned_to new (resumed no_action 0) (turn_of o)
  goes_does st programs =
      let scene = scene_of consts programs in
      ap (step_due scene t.number p old t.task_state.position) st
      ∙ ap (λ (x : Option ScriptFile). step_does scene t.number p old t.task_state.position i x d)
      (get_map (script_file_of consts) consts.each_inode i s there)
      ∙ goes_event programs no_action 0

-- ---- a deed that was done, was blocked, or ran out of memory

pub answer_same : (a : StepResult) (place : ℕ) → a.place ≡ place → a.action ≡ None
    → plain_answer place a.told ≡ answer_of a 0
answer_same a place e f =
    ap (λ (k : ℕ). plain_answer k a.told) (sym e)
    ∙ ap (λ (x : Option Action). record {
      place = a.place;
      told = a.told;
      action = given x;
      rules = 0;
    }) (sym f)

pub does_tells : (consts : WorldConsts) (t : Tasked) (i : ℕ) (s : InodeConsts) (d : Deed)
    (old new : State) (passes : PassesValue) (g : HashState) (a : StepResult)
    → step_at t.task_state.program t.task_state.position.call_state ≡ Some (Does i d)
    → slice_get consts.each_inode i ≡ Some s
    → (e : EventOn consts i s
    (who_at t.number t.task_state.program t.task_state.position.call_state) d old new
    t.passes passes t.hash_state g (Some a.told))
    → Some a.told ≡ outcome (inode_in consts s) old.list d (newest_first e.journal)
    → IsPlacedAt (length e.journal) (Some a) → Tells consts t old new passes g a
does_tells consts t i s d old new passes g a st there e tells at =
    let same : plain_answer (length e.journal) a.told ≡ answer_of a 0 =
    answer_same a (length e.journal) at.0 at.1 in
    record {
      rules = 0;
      checked = ap (λ (x : Option Action). unwrap_or x t.task_state.checked) at.1
          ∙ sym (ap (λ (z : Option Step). action_by z (answer_of a 0) t.task_state.checked) st);
      plays = λ h task_state x hd. subst (λ (b : Answer).
          HasPlayed consts (task_after t task_state passes g) (b ∷ h)) same
          (event_is_played consts t h i s d a.told old new passes g task_state x st there e tells
          (subst (λ (b : Answer). HasResumed consts t b task_state) (sym same) hd));
      goes = λ programs. goes_does consts t i s d old new passes g (Some a.told) e there tells st
          programs
          ∙ ap (λ (b : Answer). turned_to new
          (resume (mode_in consts) t.task_state.program t.task_state.position b) turns.Moved) same;
    }

pub does_blocks : (consts : WorldConsts) (t : Tasked) (i : ℕ) (s : InodeConsts) (d : Deed)
    (old new : State) (passes : PassesValue) (g : HashState)
    → step_at t.task_state.program t.task_state.position.call_state ≡ Some (Does i d)
    → slice_get consts.each_inode i ≡ Some s
    → (e : EventOn consts i s
    (who_at t.number t.task_state.program t.task_state.position.call_state) d old new
    t.passes passes t.hash_state g None)
    → None ≡ outcome (inode_in consts s) old.list d (newest_first e.journal)
    → Stops consts t old new passes g turns.Blocked
does_blocks consts t i s d old new passes g st there e tells = record {
  plays = λ h x. none_is_played consts t h i s d old new passes g x
      (subst (IsStepFor i d) (sym st) (refl, refl)) there e;
  goes = goes_does consts t i s d old new passes g None e there tells st;
}

pub does_fails : (consts : WorldConsts) (t : Tasked) (i : ℕ) (s : InodeConsts) (d : Deed)
    (old new : State) (passes : PassesValue) (g : HashState)
    → step_at t.task_state.program t.task_state.position.call_state ≡ Some (Does i d)
    → slice_get consts.each_inode i ≡ Some s
    → EventOn consts i s (who_at t.number t.task_state.program t.task_state.position.call_state) d
    old new t.passes passes t.hash_state g None
    → new ≡ old → Fails consts t old new passes g
does_fails consts t i s d old new passes g st there e same = record {
  plays = λ h x. none_is_played consts t h i s d old new passes g x
      (subst (IsStepFor i d) (sym st) (refl, refl)) there e;
  state = same;
}
