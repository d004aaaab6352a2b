-- How a turn with a deed on an inode ends.
use Rattle.std.proofs.Common.{◌≡◌, ℕ, zero, suc, List, [], ◌∷◌, map, get_or, Option, Some, None, refl, sym, ◌∙◌, ap, subst}
use Rattle.std.specs.Prelude.{IfOk, Result, Ok, Err, slice_get, slice_set}
use Rattle.std.proofs.lemmas.List.{append-nil, set-get_or}
use Rattle.inode_events.specs.declared.deed.Deed.{Deed}
use Rattle.inode_events.specs.declared.told.Event.{Event}
use Rattle.inode_meta.specs.declared.step.Who.{Who}
use Rattle.call_steps.specs.CallState.{Does}
use Rattle.run_model.specs.History.{Answer, step_at, who_at}
use Rattle.run_model.specs.Scene.{ScriptFile}
use Rattle.run_model.specs.Turns.{State, state_on, step_does, step_due}
use Rattle.run_model.specs.declared.turn.Turn.TheVariants as turns
use Rattle.task_steps.proofs.Going.{does_blocks, does_fails, does_tells}
use Rattle.task_steps.specs.Acting.{told_in}
use Rattle.task_steps.specs.Turning.{Stops, TurnsTo, turn_result_of}
use Rattle.task_steps.specs.declared.answers.StepResult.{StepResult}
use Rattle.task_steps.specs.worlds.WorldConsts.{InodeConsts, WorldConsts, inode_in, scene_of, script_file_of}
use Rattle.task_steps.specs.worlds.Tasks.{HasPlayed, PassesValue, Tasked}
use Rattle.task_steps.specs.worlds.declared.hash_state.HashState.{HashState}
use Rattle.task_steps.specs.Acting.{EventIn, IsSaid}
use Rattle.task_steps.specs.worlds.Plays.{task_left}

pub get_map_none : {A B : Type 0} (f : A → B) (xs : List A) (k : ℕ) → slice_get xs k ≡ None
    → slice_get (map f xs) k ≡ None
get_map_none f [] k h = refl
get_map_none f (x ∷ xs) zero h = absurd (cc)
get_map_none f (x ∷ xs) (suc k) h = get_map_none f xs k h

-- a deed without an event leaves the lists as they were
pub unmoved : (consts : WorldConsts) (i : ℕ) (s : InodeConsts) (who : Who) (d : Deed) (old : State)
    → state_on old i (inode_in consts s) who d None ≡ old
unmoved consts i s who d old =
    ap (λ (js : List (List Event)). record old { journals = js })
    (ap (λ (xs : List Event). slice_set old.journals i xs) (append-nil (get_or old.journals i []))
    ∙ set-get_or old.journals i [])

-- with equal passes and hashing the task is the same
pub same_left : (consts : WorldConsts) (t : Tasked) (passes : PassesValue) (g : HashState)
    → passes ≡ t.passes → g ≡ t.hash_state
    → (h : List Answer) → HasPlayed consts t h → HasPlayed consts (task_left t passes g) h
same_left consts t passes g e f h x =
    subst (λ (p : PassesValue). HasPlayed consts (task_left t p g) h) (sym e)
    (subst (λ (k : HashState). HasPlayed consts (task_left t t.passes k) h) (sym f) x)

module _ (consts : WorldConsts) (t : Tasked) (i : ℕ) (d : Deed) (old new : State)
    (passes : PassesValue)
    (g : HashState) (st : step_at t.task_state.program t.task_state.position.call_state
    ≡ Some (Does i d)) where
  abbrev who : Who
  who = who_at t.number t.task_state.program t.task_state.position.call_state

  -- on an inode that isn't there the turn is blocked
  none_stops : slice_get consts.each_inode i ≡ None → new ≡ old → passes ≡ t.passes
      → g ≡ t.hash_state → Stops consts t old new passes g turns.Blocked
  none_stops there e f k = record {
    plays = same_left consts t passes g f k;
    goes = λ programs.
        let scene = scene_of consts programs in
        ap (step_due scene t.number t.task_state.program old t.task_state.position) st
        ∙ ap (λ (x : Option ScriptFile).
        step_does scene t.number t.task_state.program old t.task_state.position i x d)
        (get_map_none (script_file_of consts) consts.each_inode i there)
        ∙ ap (λ (x : State). record {
          state = x;
          position = t.task_state.position;
          turn = turns.Blocked;
        })
        (sym e);
  }

  by_inode_consts : {E : Type 0} (r : Result (Option StepResult) E) (o : Option InodeConsts)
      → slice_get consts.each_inode i ≡ o
      → EventIn consts i o who d old new t.passes passes t.hash_state g (told_in r)
      → IfOk r (IsSaid consts i d old) → TurnsTo consts t old new passes g (turn_result_of r)
  by_inode_consts (Ok (Some a)) None there e x = absurd (no_told a e.told) where
    no_told : (b : StepResult) → Some b.told ≡ None → ⊥
    no_told b q = cc
  by_inode_consts (Ok None) None there e x = none_stops there e.state e.left e.hash_state
  by_inode_consts (Err y) None there e x =
      record { plays = same_left consts t passes g e.left e.hash_state; state = e.state }
  by_inode_consts (Ok (Some a)) (Some s) there e x =
      let said = x s e.journal there e.journal_at in
      does_tells consts t i s d old new passes g a st there e said.0 said.1
  by_inode_consts (Ok None) (Some s) there e x =
      let said = x s e.journal there e.journal_at in
      does_blocks consts t i s d old new passes g st there e said.0
  by_inode_consts (Err y) (Some s) there e x =
      does_fails consts t i s d old new passes g st there e
      (e.state ∙ unmoved consts i s who d old)

  pub does_reaches : {E : Type 0} (r : Result (Option StepResult) E)
      → EventIn consts i (slice_get consts.each_inode i) who d old new t.passes passes
      t.hash_state g (told_in r)
      → IfOk r (IsSaid consts i d old) → TurnsTo consts t old new passes g (turn_result_of r)
  does_reaches r e x = by_inode_consts r (slice_get consts.each_inode i) refl e x
