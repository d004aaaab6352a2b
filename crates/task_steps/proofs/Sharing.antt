-- How a turn ends that does nothing, posts, waits or appends a rule.
use Rattle.std.proofs.Common.{◌≡◌, ℕ, ◌+◌, ◌<◌, List, [], ◌∷◌, ◌++◌, length, Option, Some, None, refl, sym, ◌∙◌, ap, subst, arith, length-append}
use Rattle.std.specs.Prelude.{Bool, true, false, cond, nat_lt, IfOk, Result, Ok, Err, unwrap_or}
use Rattle.std.proofs.lemmas.Option.{same_Some}
use Rattle.std.proofs.lemmas.List.{append-nil}
use mathlib.Core.List.{IsPrefix}
use Rattle.grow_list.proofs.Prefixes.{prefix_append, prefix_refl, prefix_trans}
use Rattle.grow_list.specs.Shown.{Passed}
use Rattle.inode_events.specs.Asked.{entered, made}
use Rattle.inode_events.specs.Checks.{no_action}
use Rattle.inode_events.specs.NewestFirst.{newest_first}
use Rattle.inode_events.specs.Semaphores.{left, semaphore_says}
use Rattle.inode_events.specs.declared.deed.Deed.{Deed}
use Rattle.inode_events.specs.declared.deed.Deed.TheVariants as deed
use Rattle.inode_events.specs.declared.told.Event.{Event}
use Rattle.inode_events.specs.declared.told.Told.{Told}
use Rattle.inode_events.specs.declared.told.Told.TheVariants as told
use Rattle.inode_meta.specs.declared.step.Who.{Who}
use Rattle.policy_cell.specs.declared.cell.RuleEntry.{RuleEntry}
use Rattle.policy_rules.specs.ActionValue.{ActionValue}
use Rattle.policy_rules.specs.declared.access.Action.{Action}
use Rattle.call_steps.specs.CallState.{Step}
use Rattle.call_steps.specs.CallState.{Nothing, Does, Checks, Signals, Appends}
use Rattle.task_steps.specs.laws_of_runs.Checks.{IsPlainStep, seen_by}
use Rattle.run_model.specs.History.{Answer, plain_answer, resume, rule_in, signal_in, step_at, who_at}
use Rattle.run_model.specs.Scene.{Program}
use Rattle.policy_rules.specs.RuleValue.{RuleValue}
use Rattle.run_model.specs.Turns.{State, resume_told, step_due, turn_of}
use Rattle.run_model.specs.declared.turn.Turn.TheVariants as turns
use Rattle.task_steps.proofs.Going.{answer_same}
use Rattle.task_steps.specs.Acting.{IsPlacedAt, told_in, told_of}
use Rattle.task_steps.specs.Sharing.{AppendsTo, SignalsOn}
use Rattle.task_steps.specs.Turning.{Tells, TurnsTo, answer_of, turn_result_of, turned_to}
use Rattle.task_steps.specs.declared.answers.StepResult.{StepResult}
use Rattle.task_steps.specs.worlds.WorldConsts.{WorldConsts, mode_in, scene_of}
use Rattle.task_steps.specs.worlds.Tasks.{PassesValue, Tasked, action_by}
use Rattle.task_steps.proofs.about_worlds.Eventing.{adds_none}
use Rattle.task_steps.proofs.about_worlds.Quieting.{quiet_is_left, quiet_is_played}
use Rattle.task_steps.specs.worlds.Quiet.{IsQuiet, QuietLeft, QuietPasses}
use Rattle.task_steps.specs.worlds.Steps.{Adds}

-- if a step isn't a check, its answer has no action, and the action of the last check remains
checked_quiet : (t : ActionValue) (a : StepResult) (o : Option Step) → IsQuiet o → a.action ≡ None
    → unwrap_or a.action t ≡ action_by o (answer_of a 0) t
checked_quiet t a (Some Nothing) q e = ap (λ (x : Option Action). unwrap_or x t) e
checked_quiet t a (Some (Signals d)) q e = ap (λ (x : Option Action). unwrap_or x t) e
checked_quiet t a (Some (Appends rule)) q e = ap (λ (x : Option Action). unwrap_or x t) e
checked_quiet t a (Some (Does i d)) q e = absurd q
checked_quiet t a (Some (Checks i file func mask)) q e = absurd q
checked_quiet t a None q e = absurd q

-- the outcome of a post or a wait that isn't blocked is `Done`
is_done : (before : List Event) (d : Deed) (u : Told) → semaphore_says before d ≡ Some u
    → u ≡ told.Done
is_done before (deed.Post sem) u e = sym (same_Some told.Done u e)
is_done before (deed.Wait sem) u e = at (nat_lt 0 (left sem before)) e where
  at : (b : Bool) → cond b (Some told.Done) None ≡ Some u → u ≡ told.Done
  at true f = sym (same_Some told.Done u f)
  at false f = absurd (cc)
is_done before d u e = absurd (cc)

module _ (consts : WorldConsts) (t : Tasked) where
  abbrev due : Option Step
  due = step_at t.task_state.program t.task_state.position.call_state

  abbrev who : Who
  who = who_at t.number t.task_state.program t.task_state.position.call_state

  -- a quiet step that was made, by its answer
  quiet_tells : (old new : State) (passes : PassesValue) (a : StepResult) (place : ℕ)
      → IsQuiet due → a.place ≡ place → a.action ≡ None
      → QuietPasses consts t passes (plain_answer place a.told)
      → ((programs : List Program)
      → step_due (scene_of consts programs) t.number t.task_state.program old
      t.task_state.position due ≡ turned_to new
      (resume (mode_in consts) t.task_state.program t.task_state.position
      (plain_answer place a.told)) turns.Moved)
      → Tells consts t old new passes t.hash_state a
  quiet_tells old new passes a place quiet e f y goes =
      let same : plain_answer place a.told ≡ answer_of a 0 = answer_same a place e f in
      record {
        rules = 0;
        checked = checked_quiet t.task_state.checked a due quiet f;
        plays = λ h task_state x hd. quiet_is_played consts t h (answer_of a 0) passes task_state
            x quiet (subst (λ (b : Answer). QuietPasses consts t passes b) same y) hd;
        goes = λ programs. goes programs
            ∙ ap (λ (b : Answer). turned_to new
            (resume (mode_in consts) t.task_state.program t.task_state.position b) turns.Moved)
            same;
      }

  -- a step that does nothing was made
  pub nothing_tells : (old : State) (a : StepResult) → due ≡ Some Nothing → a.place ≡ 0
      → a.told ≡ told.Nothing → a.action ≡ None
      → Tells consts t old old t.passes t.hash_state a
  nothing_tells old a st e k f =
      quiet_tells old old t.passes a 0 (subst IsQuiet (sym st) tt) e f
      (record {
        inodes = refl;
        book = refl;
        sems = subst (λ (o : Option Step). Adds t.passes.sems t.passes.sems
            (signal_in who o (plain_answer 0 a.told))) (sym st)
            (adds_none t.passes.sems t.passes.sems refl);
        rules = subst (λ (o : Option Step). Adds t.passes.rules t.passes.rules
            (rule_in who o (plain_answer 0 a.told))) (sym st)
            (adds_none t.passes.rules t.passes.rules refl);
        rules_seen = prefix_refl t.passes.rules.seen;
        plain = λ programs. subst (λ (o : Option Step). IsPlainStep (scene_of consts programs)
            (seen_by t.passes.inodes t.passes.rules) o (plain_answer 0 a.told)) (sym st)
            (ap (plain_answer 0) k);
      })
      (λ programs.
      ap (step_due (scene_of consts programs) t.number t.task_state.program old
      t.task_state.position) st ∙ ap (λ (z : Told). turned_to old
      (resume (mode_in consts) t.task_state.program t.task_state.position (plain_answer 0 z))
      turns.Moved) (sym k))

  -- a post or a wait
  module _ (d : Deed) (old new : State) (passes : PassesValue) (st : due ≡ Some (Signals d)) where
    signals_quiet : (o : Option Told) → SignalsOn old new t.passes passes who d o → (u : Told)
        → o ≡ Some u → u ≡ told.Done
        → QuietPasses consts t passes (plain_answer (length old.signals) u)
    signals_quiet o e u f k = record {
      inodes = ap (λ (q : PassesValue). q.inodes) e.others;
      book = ap (λ (q : PassesValue). q.book) e.others;
      sems = subst (λ (z : Option Step). Adds t.passes.sems passes.sems
          (signal_in who z (plain_answer (length old.signals) u))) (sym st)
          (subst (λ (z : Option Told). Adds t.passes.sems passes.sems
          (entered (length old.signals) who d z)) f e.sems);
      rules = subst (λ (z : Option Step). Adds t.passes.rules passes.rules
          (rule_in who z (plain_answer (length old.signals) u))) (sym st)
          (adds_none t.passes.rules passes.rules (ap (λ (q : PassesValue). q.rules) e.others));
      rules_seen = subst (λ (q : Passed RuleEntry). IsPrefix t.passes.rules.seen q.seen)
          (sym (ap (λ (q : PassesValue). q.rules) e.others)) (prefix_refl t.passes.rules.seen);
      plain = λ programs. subst (λ (z : Option Step). IsPlainStep (scene_of consts programs)
          (seen_by passes.inodes passes.rules) z (plain_answer (length old.signals) u)) (sym st)
          (ap (plain_answer (length old.signals)) k);
    }

    signals_left : SignalsOn old new t.passes passes who d None → QuietLeft t passes
    signals_left e = record {
      inodes = ap (λ (q : PassesValue). q.inodes) e.others;
      book = ap (λ (q : PassesValue). q.book) e.others;
      sems = e.sems;
      rules = ap (λ (q : PassesValue). q.rules) e.others;
    }

    signals_go : (o : Option Told) → SignalsOn old new t.passes passes who d o
        → o ≡ semaphore_says (newest_first old.signals) d → (programs : List Program)
        → step_due (scene_of consts programs) t.number t.task_state.program old
        t.task_state.position due ≡ turned_to new
        (resume_told (mode_in consts) t.task_state.program t.task_state.position
        (length old.signals) no_action 0 o) (turn_of o)
    signals_go o e f programs =
        ap (step_due (scene_of consts programs) t.number t.task_state.program old
        t.task_state.position) st
        ∙ ap (λ (z : Option Told). turned_to (record old { signals = old.signals ++ made who d z })
        (resume_told (mode_in consts) t.task_state.program t.task_state.position
        (length old.signals) no_action 0 z) (turn_of z)) (sym f)
        ∙ ap (λ (x : State). turned_to x
        (resume_told (mode_in consts) t.task_state.program t.task_state.position
        (length old.signals) no_action 0 o) (turn_of o)) (sym e.state)

    pub signals_reach : {E : Type 0} (r : Result (Option StepResult) E)
        → SignalsOn old new t.passes passes who d (told_in r)
        → IfOk r (λ o. (told_of o ≡ semaphore_says (newest_first old.signals) d)
        × IsPlacedAt (length old.signals) o)
        → TurnsTo consts t old new passes t.hash_state (turn_result_of r)
    signals_reach (Ok (Some a)) e x =
        quiet_tells old new passes a (length old.signals) (subst IsQuiet (sym st) tt) x.1.0 x.1.1
        (signals_quiet (Some a.told) e a.told refl
        (is_done (newest_first old.signals) d a.told (sym x.0))) (signals_go (Some a.told) e x.0)
    signals_reach (Ok None) e x = record {
      plays = λ h y. quiet_is_left consts t h passes y (signals_left e);
      goes = signals_go None e x.0;
    }
    signals_reach (Err y) e x = record {
      plays = λ h z. quiet_is_left consts t h passes z (signals_left e);
      state = e.state ∙ ap (λ (xs : List Event). record old { signals = xs })
          (append-nil old.signals);
    }

  -- an appended rule
  module _ (rule : RuleValue) (old new : State) (passes : PassesValue)
      (st : due ≡ Some (Appends rule)) where
    abbrev entry : RuleEntry
    entry = record { who = who; rule = rule }

    appends_quiet : AppendsTo old new t.passes passes entry
        → QuietPasses consts t passes (plain_answer (length old.added) told.Done)
    appends_quiet e =
        let seen : passes.rules.seen ≡ old.added ++ entry ∷ [] =
        e.seen ∙ ap (λ (x : State). x.added) e.state in
        let more : length (old.added ++ entry ∷ []) ≡ length old.added + 1 =
        length-append old.added (entry ∷ []) in
        record {
          inodes = ap (λ (q : PassesValue). q.inodes) e.others;
          book = ap (λ (q : PassesValue). q.book) e.others;
          sems = subst (λ (z : Option Step). Adds t.passes.sems passes.sems
              (signal_in who z (plain_answer (length old.added) told.Done))) (sym st)
              (adds_none t.passes.sems passes.sems (ap (λ (q : PassesValue). q.sems) e.others));
          rules = subst (λ (z : Option Step). Adds t.passes.rules passes.rules
              (rule_in who z (plain_answer (length old.added) told.Done))) (sym st) e.rules;
          rules_seen = subst (λ (xs : List RuleEntry). IsPrefix t.passes.rules.seen xs) (sym seen)
              (prefix_trans t.passes.rules.seen old.added (old.added ++ entry ∷ []) e.before
              (prefix_append old.added (entry ∷ [])));
          plain = λ programs. subst (λ (z : Option Step). IsPlainStep (scene_of consts programs)
              (seen_by passes.inodes passes.rules) z (plain_answer (length old.added) told.Done))
              (sym st) (
                refl,
                subst (λ (xs : List RuleEntry). length old.added < length xs) (sym seen)
                    (omega arith),
              );
        }

    -- the answer to an appended rule
    pub appends_tells : (a : StepResult) → AppendsTo old new t.passes passes entry
        → (a.place ≡ length old.added) × (a.told ≡ told.Done) × (a.action ≡ None)
        → Tells consts t old new passes t.hash_state a
    appends_tells a e x =
        quiet_tells old new passes a (length old.added) (subst IsQuiet (sym st) tt) x.0 x.2
        (subst (λ (u : Told). QuietPasses consts t passes (plain_answer (length old.added) u))
        (sym x.1) (appends_quiet e))
        (λ programs.
        ap (step_due (scene_of consts programs) t.number t.task_state.program old
        t.task_state.position) st ∙ ap (λ (y : State). turned_to y
        (resume (mode_in consts) t.task_state.program t.task_state.position
        (plain_answer (length old.added) told.Done)) turns.Moved) (sym e.state)
        ∙ ap (λ (u : Told). turned_to new
        (resume (mode_in consts) t.task_state.program t.task_state.position
        (plain_answer (length old.added) u)) turns.Moved) (sym x.1))
