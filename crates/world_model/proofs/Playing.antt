-- A task preserves the invariant with its history, step by step.
use Rattle.std.proofs.Common.{◌≡◌, ℕ, zero, suc, ◌<◌, List, [], ◌∷◌, ◌++◌, length, Some, sym, ◌∙◌, ap, subst}
use Rattle.std.specs.Prelude.{All, slice_get}
use Rattle.std.proofs.lemmas.List.Elements.{All-head, All-nil, All-tail}
use Rattle.std.proofs.lemmas.Option.{same_Some}
use Rattle.grow_list.specs.Shown.{Passed}
use Rattle.call_steps.specs.templates.declared.entry.Entry.{Entry}
use Rattle.policy_rules.specs.ActionValue.{ActionValue}
use Rattle.inode_events.specs.declared.told.Event.{Event}
use Rattle.call_steps.specs.CallState.{CallState}
use Rattle.call_steps.specs.CallState.{fresh}
use Rattle.world_model.specs.laws_of_runs.Logs.{log, logged}
use Rattle.world_model.specs.laws_of_runs.Steps.{NamesBelow, RisesWithin}
use Rattle.run_model.specs.rules.declared.cell.RuleEntry.{RuleEntry}
use Rattle.world_model.proofs.laws_of_runs.Checking.{law_fits_at_first}
use Rattle.world_model.specs.laws_of_runs.Checks.{seen_by}
use Rattle.run_model.specs.History.{Answer, Position, call_at, event_in, own, own_rules, own_signals, position, resume, rule_in, signal_in, step_at, who_at}
use Rattle.run_model.specs.Scene.{Program}
use Rattle.world_model.specs.WorldConsts.{WorldConsts, mode_in, scene_of}
use Rattle.world_model.specs.Tasks.{ArePassesOf, HashesFor, HasPlayed, Tasked, action_by, last_action}
use Rattle.world_model.specs.Steps.{FreshIsTask, HasStepped, InodeStepped, StepIsPlayed}
use Rattle.world_model.proofs.Next.{begins}

-- a property of all elements holds of the one at a place
pub all_at : {A : Type 0} (P : A → Type 0) (xs : List A) (k : ℕ) (x : A) → All P xs
    → slice_get xs k ≡ Some x → P x
all_at P [] k x a h = absurd (cc)
all_at P (y ∷ ys) zero x a h = subst P (same_Some y x h) (All-head P y ys a)
all_at P (y ∷ ys) (suc k) x a h = all_at P ys k x (All-tail P y ys a) h

no_mine : (passes : List (Passed Event)) (i : ℕ) (q : Passed Event)
    → All (λ (p : Passed Event). p.mine ≡ []) passes → slice_get passes i ≡ Some q → q.mine ≡ []
no_mine passes i q a h = all_at (λ (p : Passed Event). p.mine ≡ []) passes i q a h

pub fresh_is_task : FreshIsTask
fresh_is_task consts t calls stands checked passes unused =
    let p = t.task_state.program in
    record {
      calls = calls;
      stands = sym stands;
      checked = checked;
      passes = passes;
      events = λ i q h. no_mine t.passes.inodes i q unused.inodes h;
      placed = λ i q h. subst (λ (xs : List (ℕ × Event)). All (λ x. x.0 < length q.seen) xs)
          (sym (no_mine t.passes.inodes i q unused.inodes h))
          (All-nil (λ (x : ℕ × Event). x.0 < length q.seen));
      signals = unused.sems;
      rules = unused.rules;
      unlisted = unused.book;
      checks = λ programs. law_fits_at_first (scene_of consts programs) p
          (seen_by t.passes.inodes t.passes.rules);
      rises = record { rises = tt; below = All-nil (NamesBelow (length t.passes.book.seen)) };
      hashed = subst (λ (m : CallState). HashesFor consts t.passes.inodes t.hash_state
          (step_at p m)) (sym (ap (λ (x : Position). x.call_state) stands))
          (begins consts t.passes.inodes t.hash_state p fresh (call_at p fresh));
    }

-- ---- a step

module _ (consts : WorldConsts) (t t2 : Tasked) (h : List Answer) (a : Answer)
    (x : HasPlayed consts t h) (y : HasStepped consts t t2 a) where
  abbrev p : Program
  p = t.task_state.program

  abbrev n : ℕ
  n = t.number

  -- the state to which the history leads
  abbrev at : CallState
  at = (position (mode_in consts) p h).call_state

  is_at : t.task_state.position.call_state ≡ at
  is_at = ap (λ (z : Position). z.call_state) (sym x.stands)

  passes_of : ArePassesOf consts n t2.passes
  passes_of = record {
    even = y.even ∙ x.passes.even;
    inodes = λ i s q g k.
        let e : InodeStepped (who_at n p t.task_state.position.call_state)
        (step_at p t.task_state.position.call_state) a i t.passes.inodes q = y.inodes i q k in
        let o = x.passes.inodes i s e.before g e.at in
        (e.name ∙ o.0, e.number ∙ o.1);
    sems = (y.sems.name ∙ x.passes.sems.0, y.sems.number ∙ x.passes.sems.1);
    book = (y.book.name ∙ x.passes.book.0, y.book.number ∙ x.passes.book.1);
    rules = (y.rules.name ∙ x.passes.rules.0, y.rules.number ∙ x.passes.rules.1);
  }

  events_of_step : (i : ℕ) (q : Passed Event) → slice_get t2.passes.inodes i ≡ Some q
      → q.mine ≡ own (mode_in consts) n p i (a ∷ h)
  events_of_step i q k =
      let e : InodeStepped (who_at n p t.task_state.position.call_state)
      (step_at p t.task_state.position.call_state) a i t.passes.inodes q = y.inodes i q k in
      e.mine
      ∙ ap (λ (xs : List (ℕ × Event)). xs
      ++ event_in i (who_at n p t.task_state.position.call_state)
      (step_at p t.task_state.position.call_state) a) (x.events i e.before e.at)
      ∙ ap (λ (m : CallState). own (mode_in consts) n p i h ++ event_in i (who_at n p m)
      (step_at p m) a) is_at

  placed_in_step : (i : ℕ) (q : Passed Event) → slice_get t2.passes.inodes i ≡ Some q
      → All (λ z. z.0 < length q.seen) q.mine
  placed_in_step i q k =
      let e : InodeStepped (who_at n p t.task_state.position.call_state)
      (step_at p t.task_state.position.call_state) a i t.passes.inodes q = y.inodes i q k in
      e.placed (x.placed i e.before e.at)

  abbrev task_with : ℕ → Program → Tasked
  task_with k prog = record t2 { number = k; task_state = record t2.task_state { program = prog } }

  stepped : HasPlayed consts (task_with n p) (a ∷ h)
  stepped = record {
    calls = x.calls;
    stands = ap (λ (z : Position). resume (mode_in consts) p z a) x.stands ∙ sym y.stands;
    checked = y.checked
        ∙ ap (λ (z : ActionValue). action_by (step_at p t.task_state.position.call_state) a z)
        x.checked
        ∙ ap (λ (m : CallState). action_by (step_at p m) a (last_action (mode_in consts) p h))
        is_at;
    passes = passes_of;
    events = events_of_step;
    placed = placed_in_step;
    signals = y.sems.mine
        ∙ ap (λ (xs : List (ℕ × Event)). xs
        ++ signal_in (who_at n p t.task_state.position.call_state)
        (step_at p t.task_state.position.call_state) a) x.signals
        ∙ ap (λ (m : CallState). own_signals (mode_in consts) n p h
        ++ signal_in (who_at n p m) (step_at p m) a) is_at;
    rules = y.rules.mine
        ∙ ap (λ (xs : List (ℕ × RuleEntry)). xs
        ++ rule_in (who_at n p t.task_state.position.call_state)
        (step_at p t.task_state.position.call_state) a) x.rules
        ∙ ap (λ (m : CallState). own_rules (mode_in consts) n p h
        ++ rule_in (who_at n p m) (step_at p m) a) is_at;
    unlisted = y.book.mine ∙ ap (λ (xs : List (ℕ × Entry)). xs ++ []) x.unlisted;
    checks = λ programs. y.checks programs h (sym is_at) (x.checks programs);
    rises = subst (λ (m : CallState). RisesWithin
        (logged (who_at n p m) (step_at p m) a ++ log (mode_in consts) n p h) t2.passes.book.seen)
        is_at (y.rises (log (mode_in consts) n p h) x.rises);
    hashed = y.hashed;
  }

pub step_is_played : StepIsPlayed
step_is_played consts t t2 h a x y =
    subst (λ (k : ℕ). HasPlayed consts (record t2 { number = k }) (a ∷ h)) (sym y.number)
    (subst (λ (prog : Program). HasPlayed consts
    (record t2 { number = t.number; task_state = record t2.task_state { program = prog } }) (a ∷ h))
    (sym y.program) (stepped consts t t2 h a x y))
