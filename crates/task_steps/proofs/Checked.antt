-- How a turn with a check ends.
use Rattle.std.proofs.Common.{◌≡◌, ℕ, List, [], ◌∷◌, length, Option, Some, None, refl, sym, ◌∙◌, ap, subst}
use Rattle.std.specs.Prelude.{Result, Ok, Err, slice_get, unwrap_or}
use Rattle.std.proofs.lemmas.Option.{get_or_from_slice_get, same_Some}
use Rattle.inode_events.specs.Asked.{outcome}
use Rattle.inode_events.specs.NewestFirst.{newest_first}
use Rattle.inode_events.specs.State.{metadata}
use Rattle.inode_events.specs.declared.deed.Deed.{Deed}
use Rattle.inode_events.specs.declared.deed.Deed.TheVariants as deed
use Rattle.inode_events.specs.declared.told.Event.{Event}
use Rattle.inode_meta.specs.declared.step.Who.{Who}
use Rattle.call_steps.specs.CallState.{Step}
use Rattle.call_steps.specs.CallState.{Checks}
use Rattle.call_steps.specs.Steps.{given}
use Rattle.policy_rules.specs.RuleValue.{RuleValue}
use Rattle.policy_rules.specs.declared.access.Action.{Action}
use Rattle.policy_rules.specs.declared.rule.Func.{Func}
use Rattle.run_model.specs.History.{Answer, resume, step_at, who_at}
use Rattle.run_model.specs.Scene.{Program, ScriptFile, decided, rules_with}
use Rattle.run_model.specs.Turns.{State, step_check, step_due, step_event}
use Rattle.run_model.specs.declared.turn.Turn.TheVariants as turns
use Rattle.task_steps.specs.declared.listed.Checks.{Checks as Asked}
use Rattle.task_steps.specs.worlds.WorldConsts.{InodeConsts, WorldConsts, inode_in, mode_in, scene_of, script_file_of, super_at}
use Rattle.task_steps.specs.worlds.Tasks.{HasPlayed, PassesValue, Tasked, action_by}
use Rattle.task_steps.proofs.about_worlds.Blocking.{none_is_played}
use Rattle.task_steps.proofs.about_worlds.Eventing.{check_is_played, get_map}
use Rattle.task_steps.specs.worlds.Events.{EventOn}
use Rattle.task_steps.specs.worlds.Plays.{HasResumed, IsStepFor, check_answer, task_after}
use Rattle.task_steps.proofs.Going.{goes_event}
use Rattle.task_steps.proofs.Reaching.{get_map_none, same_left, unmoved}
use Rattle.task_steps.specs.Checking.{CheckIn, IsCheckedBy}
use Rattle.task_steps.specs.Turning.{Goes, Stops, Tells, TurnsTo, answer_of, turn_result_of, turned_to}
use Rattle.task_steps.specs.declared.answers.StepResult.{StepResult}

module _ (consts : WorldConsts) (t : Tasked) (i file : ℕ) (func : Func) (mask : ℕ) (old new : State)
    (passes : PassesValue)
    (st : step_at t.task_state.program t.task_state.position.call_state
    ≡ Some (Checks i file func mask)) where
  abbrev p : Program
  p = t.task_state.program

  abbrev who : Who
  who = who_at t.number p t.task_state.position.call_state

  abbrev asked : Asked
  asked = record { file = file; func = func; mask = mask }

  abbrev rules : List RuleValue
  rules = rules_with (scene_of consts []) old.added

  -- the action of the check, if the inode has this journal
  abbrev action_on : InodeConsts → List Event → Action
  action_on s journal =
      decided rules p.cred (super_at consts s.place) (metadata (newest_first journal)) func mask

  abbrev check_on : InodeConsts → List Event → Deed
  check_on s journal = deed.Check file func (action_on s journal) (length rules)

  -- the check was made, and the journal was this
  module _ (s : InodeConsts) (there : slice_get consts.each_inode i ≡ Some s) (a : StepResult)
      (journal : List Event)
      (e : EventOn consts i s who (check_on s journal) old new t.passes passes t.hash_state
      t.hash_state (Some a.told)) (is : e.journal ≡ journal)
      (by : IsCheckedBy (inode_in consts s) journal old.list rules p.cred (super_at consts s.place)
      asked a) where
    abbrev count : ℕ
    count = length rules

    same : check_answer (length e.journal) a.told (action_on s journal) count ≡ answer_of a count
    same =
        ap (λ (k : ℕ). check_answer k a.told (action_on s journal) count)
        (ap length is ∙ sym by.place_is)
        ∙ ap (λ (x : Option Action). record {
          place = a.place;
          told = a.told;
          action = given x;
          rules = count;
        }) (sym by.action)

    tells : Some a.told
        ≡ outcome (inode_in consts s) old.list (check_on s journal) (newest_first e.journal)
    tells =
        by.told
        ∙ ap (λ (xs : List Event). outcome (inode_in consts s) old.list (check_on s journal)
        (newest_first xs)) (sym is)

    goes : Goes consts t old (turned_to new
        (resume (mode_in consts) p t.task_state.position (answer_of a count)) turns.Moved)
    goes programs =
        let scene = scene_of consts programs in
        ap (step_due scene t.number p old t.task_state.position) st
        ∙ ap (λ (x : Option ScriptFile).
        step_check scene t.number p old t.task_state.position i x file func mask)
        (get_map (script_file_of consts) consts.each_inode i s there)
        ∙ ap (λ (xs : List Event). step_event scene t.number p old t.task_state.position i
        (inode_in consts s) (check_on s xs) (action_on s xs) count)
        (get_or_from_slice_get old.journals i e.journal [] e.journal_at ∙ is)
        ∙ goes_event consts t i s (check_on s journal) old new passes t.hash_state (Some a.told) e
        there tells programs (action_on s journal) count
        ∙ ap (λ (b : Answer). turned_to new (resume (mode_in consts) p t.task_state.position b)
        turns.Moved) same

    check_tells : passes.rules.seen ≡ old.added → Tells consts t old new passes t.hash_state a
    check_tells seen = record {
      rules = count;
      checked = ap (λ (x : Option Action). unwrap_or x t.task_state.checked) by.action
          ∙ sym (ap given by.action)
          ∙ sym (ap (λ (z : Option Step). action_by z (answer_of a count) t.task_state.checked) st);
      plays = λ h task_state x hd. subst (λ (b : Answer).
          HasPlayed consts (task_after t task_state passes t.hash_state) (b ∷ h)) same
          (check_is_played consts t h i s file func mask (action_on s journal) count a.told old new
          passes t.hash_state task_state x st there e tells seen refl
          (ap (action_on s) (sym is))
          (subst (λ (b : Answer). HasResumed consts t b task_state) (sym same) hd));
      goes = goes;
    }

  -- on an inode that isn't there the turn is blocked
  none_stops : slice_get consts.each_inode i ≡ None → new ≡ old → passes ≡ t.passes
      → Stops consts t old new passes t.hash_state turns.Blocked
  none_stops there e f = record {
    plays = same_left consts t passes t.hash_state f refl;
    goes = λ programs.
        let scene = scene_of consts programs in
        ap (step_due scene t.number p old t.task_state.position) st
        ∙ ap (λ (x : Option ScriptFile).
        step_check scene t.number p old t.task_state.position i x file func mask)
        (get_map_none (script_file_of consts) consts.each_inode i there)
        ∙ ap (λ (x : State). turned_to x t.task_state.position turns.Blocked) (sym e);
  }

  by_inode_consts : {E : Type 0} (r : Result (Option StepResult) E) (o : Option InodeConsts)
      → slice_get consts.each_inode i ≡ o
      → CheckIn consts i o who p.cred asked old new t.passes passes t.hash_state r
      → TurnsTo consts t old new passes t.hash_state (turn_result_of r)
  by_inode_consts (Ok (Some a)) None there c = absurd (no_told a c.told) where
    no_told : (b : StepResult) → Some b.told ≡ None → ⊥
    no_told b q = cc
  by_inode_consts (Ok None) None there c = none_stops there c.state c.left
  by_inode_consts (Err y) None there c =
      record { plays = same_left consts t passes t.hash_state c.left refl; state = c.state }
  by_inode_consts (Ok (Some a)) (Some s) there c =
      check_tells s there a c.journal c.event
      (same_Some c.event.journal c.journal (sym c.event.journal_at ∙ c.journal_at)) c.told c.seen
  by_inode_consts (Ok None) (Some s) there c = absurd c.told
  by_inode_consts (Err y) (Some s) there c = record {
    plays = λ h x. none_is_played consts t h i s (check_on s c.journal) old new passes
        t.hash_state x (subst (IsStepFor i (check_on s c.journal)) (sym st) refl) there c.event;
    state = c.event.state ∙ unmoved consts i s who (check_on s c.journal) old;
  }

  pub check_reaches : {E : Type 0} (r : Result (Option StepResult) E)
      → CheckIn consts i (slice_get consts.each_inode i) who p.cred asked old new t.passes passes
      t.hash_state r
      → TurnsTo consts t old new passes t.hash_state (turn_result_of r)
  check_reaches r c = by_inode_consts r (slice_get consts.each_inode i) refl c
