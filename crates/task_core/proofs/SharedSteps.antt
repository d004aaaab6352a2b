-- How a turn ends on a world that threads share.
use Rattle.std.proofs.Common.{◌≡◌, ℕ, false, Option, Some, None, refl, sym, ◌∙◌, ap, subst}
use Rattle.std.specs.Prelude.{IfOk, OnErr, Result, Ok, Err, slice_get}
use Rattle.call_steps.specs.CallState.{Step}
use Rattle.call_steps.specs.CallState.{Appends, Checks, Does, Nothing, Signals}
use Rattle.inode_events.specs.declared.deed.Deed.{Deed}
use Rattle.inode_events.specs.declared.told.Told.TheVariants as told
use Rattle.inode_meta.specs.declared.identity.Cred.{Cred}
use Rattle.inode_meta.specs.declared.step.Who.{Who}
use Rattle.inode_meta.specs.declared.appraisal.Mode.{Mode}
use Rattle.policy_rules.specs.RuleValue.{RuleValue}
use Rattle.run_model.specs.History.{step_at, who_at}
use Rattle.run_model.specs.Rounds.{is_moved}
use Rattle.run_model.specs.Turns.{State, Turned, step_task}
use Rattle.run_model.specs.declared.turn.Turn.{Turn}
use Rattle.run_model.specs.declared.turn.Turn.TheVariants as turns
use Rattle.task_core.proofs.Blocks.{check_blocks, deed_blocks, err_fails, no_answer, over_ends, signal_blocks, told_moves}
use Rattle.task_core.proofs.Turns.{appends_fail, appends_turn, check_turn, does_turn, over_turn, signals_turn, turned_goes}
use Rattle.task_core.specs.GoesOn.{GoesOn, turn_of, turn_told}
use Rattle.task_core.specs.Shared.{IsBlockedBy, IsBlockedOn, IsIdle, StepsTo, TurnsToMet}
use Rattle.world_locks.specs.acts.declared.listed.Checks.{Checks as Asked}
use Rattle.world_model.specs.WorldConsts.{InodeConsts, WorldConsts, mode_in, scene_of}
use Rattle.world_model.specs.Tasks.{PassesValue, Tasked}
use Rattle.world_model.specs.declared.hash_state.HashState.{HashState}
use Rattle.world_locks.proofs.about_worlds.Blocking.{task_of_who}
use Rattle.world_locks.specs.worlds.Plays.{task_after}
use Rattle.task_state.specs.Value.{TaskValue}
use Rattle.world_locks.proofs.about_acts.Sharing.{nothing_tells}
use Rattle.world_locks.specs.acts.Acting.{told_in}
use Rattle.world_locks.specs.acts.Turning.{Goes, turn_result_of, turned_to}
use Rattle.world_locks.specs.acts.declared.answers.StepResult.{StepResult}
use Rattle.world_locks.specs.acts.declared.answers.TurnResult.{TurnResult}
use Rattle.world_locks.specs.acts.declared.answers.TurnResult.TheVariants as turn_result
use Rattle.world_locks.proofs.Idle.{check_idle, event_idle, signals_idle}
use Rattle.world_locks.specs.Met.{AppendsMet, CheckMet, EventMet, SignalsMet, mines_of, state_seen}

-- a turn without an answer had no outcome
idle_told : {E : Type 0} (r : Result (Option StepResult) E) (x : Result TurnResult E)
    → x ≡ turn_result_of r → IsIdle x → told_in r ≡ None
idle_told {E} r x is idle = at r (subst (λ (z : Result TurnResult E). IsIdle z) is idle) where
  at : (y : Result (Option StepResult) E) → IsIdle (turn_result_of y) → told_in y ≡ None
  at (Ok (Some a)) i = absurd i
  at (Ok None) i = refl
  at (Err e) i = refl

module _ (consts : WorldConsts) (t : Tasked) (passes : PassesValue) (w : Who)
    (w_is : w ≡ who_at t.number t.task_state.program t.task_state.position.call_state) where
  abbrev asks : Option Step
  asks = step_at t.task_state.program t.task_state.position.call_state

  -- the step is one of the task's number
  w_task : w.task ≡ t.number
  w_task =
      ap (λ (x : Who). x.task) w_is
      ∙ task_of_who t.number t.task_state.program t.task_state.position.call_state

  -- a turn with a deed on an inode
  pub does_met : {E : Type 0} (i : ℕ) (d : Deed) (g : HashState) (r : Result (Option StepResult) E)
      (x : Result TurnResult E) → asks ≡ Some (Does i d)
      → EventMet consts i w d t.passes passes t.hash_state g r → x ≡ turn_result_of r
      → TurnsToMet consts t passes g x
  does_met i d g r x st m is = record {
    old = m.old;
    reaches = does_turn consts t m.old (state_seen passes) passes w w_is i d g r x st m.event m.told
        is;
    idle = λ idle. event_idle consts i w d t.passes passes t.hash_state g r m
        (idle_told r x is idle);
    blocked = λ b. subst (λ (z : Option Step). IsBlockedBy consts t.number t.passes passes z)
        (sym st)
        (subst (λ (n : ℕ). (s : InodeConsts) → slice_get consts.each_inode i ≡ Some s
        → IsBlockedOn consts n i s d t.passes passes) w_task
        (deed_blocks consts t.passes passes w i d t.hash_state g r m (no_answer r (sym is ∙ b))));
  }

  -- a turn with a check
  pub checks_met : {E : Type 0} (i : ℕ) (asked : Asked) (cred : Cred)
      (r : Result (Option StepResult) E) (x : Result TurnResult E)
      → asks ≡ Some (Checks i asked.file asked.func asked.mask) → cred ≡ t.task_state.program.cred
      → CheckMet consts i w cred asked t.passes passes r → x ≡ turn_result_of r
      → TurnsToMet consts t passes t.hash_state x
  checks_met i asked cred r x st c m is = record {
    old = m.old;
    reaches = check_turn consts t m.old (state_seen passes) passes w w_is i asked cred r x st c
        m.check is;
    idle = λ idle. check_idle consts i w cred asked t.passes passes r m (idle_told r x is idle);
    blocked = λ b. subst (λ (z : Option Step). IsBlockedBy consts t.number t.passes passes z)
        (sym st) (check_blocks consts t.passes passes w i cred asked r m
        (no_answer r (sym is ∙ b)));
  }

  -- a turn with a post or a wait
  pub signals_met : {E : Type 0} (d : Deed) (r : Result (Option StepResult) E)
      (x : Result TurnResult E) → asks ≡ Some (Signals d)
      → SignalsMet t.passes passes w d r → x ≡ turn_result_of r
      → TurnsToMet consts t passes t.hash_state x
  signals_met d r x st m is = record {
    old = m.old;
    reaches = signals_turn consts t m.old (state_seen passes) passes w w_is d r x st
        m.signals m.told is;
    idle = λ idle. signals_idle t.passes passes w d r m (idle_told r x is idle);
    blocked = λ b. subst (λ (z : Option Step). IsBlockedBy consts t.number t.passes passes z)
        (sym st) (signal_blocks consts t.passes passes w d r m (no_answer r (sym is ∙ b)));
  }

  -- a turn with an appended rule
  pub appends_told : {E : Type 0} (rule : RuleValue) (a : StepResult) → asks ≡ Some (Appends rule)
      → AppendsMet t.passes passes (record { who = w; rule = rule }) a
      → TurnsToMet {E = E} consts t passes t.hash_state (Ok (turn_result.Told a))
  appends_told rule a st m = record {
    old = m.old;
    reaches = appends_turn consts t m.old (state_seen passes) passes w w_is rule a st m.appends
        m.told;
    idle = λ idle. absurd idle;
    blocked = λ b. absurd (told_moves a b);
  }

  -- a turn with an appended rule that ran out of memory
  pub appends_failed : {E : Type 0} (e : E) → passes ≡ t.passes
      → TurnsToMet consts t passes t.hash_state (Err e)
  appends_failed e same = record {
    old = state_seen passes;
    reaches = appends_fail consts t (state_seen passes) (state_seen passes) passes w w_is
        (refl, same);
    idle = λ idle. ap (λ (p : PassesValue). mines_of p) same;
    blocked = λ b. absurd (err_fails e b);
  }

  -- a turn with a rule to append, however it ended
  pub rule_met : {E : Type 0} (rule : RuleValue) (r : Result StepResult E)
      (x : Result TurnResult E) → asks ≡ Some (Appends rule)
      → IfOk r (λ a. AppendsMet t.passes passes (record { who = w; rule = rule }) a)
      → OnErr r (passes ≡ t.passes) → x ≡ turn_told r → TurnsToMet consts t passes t.hash_state x
  rule_met {E} rule (Ok a) x st m err is =
      subst (λ (z : Result TurnResult E). TurnsToMet consts t passes t.hash_state z) (sym is)
      (appends_told rule a st m)
  rule_met {E} rule (Err d) x st m err is =
      subst (λ (z : Result TurnResult E). TurnsToMet consts t passes t.hash_state z) (sym is)
      (appends_failed d err)

-- a turn with a step that does nothing
pub nothing_met : {E : Type 0} (consts : WorldConsts) (t : Tasked) (a : StepResult)
    → step_at t.task_state.program t.task_state.position.call_state ≡ Some Nothing → a.place ≡ 0
    → a.told ≡ told.Nothing → a.action ≡ None
    → TurnsToMet {E = E} consts t t.passes t.hash_state (Ok (turn_result.Told a))
nothing_met consts t a st e k f = record {
  old = state_seen t.passes;
  reaches = nothing_tells consts t (state_seen t.passes) a st e k f;
  idle = λ idle. absurd idle;
  blocked = λ b. absurd (told_moves a b);
}

-- a turn of a program that is over
pub over_met : {E : Type 0} (consts : WorldConsts) (t : Tasked)
    → None ≡ step_at t.task_state.program t.task_state.position.call_state
    → TurnsToMet {E = E} consts t t.passes t.hash_state (Ok turn_result.Over)
over_met consts t st = record {
  old = state_seen t.passes;
  reaches = over_turn consts t (state_seen t.passes) st;
  idle = λ idle. refl;
  blocked = λ b. absurd (over_ends b);
}

-- ---- the task before room was made for its replies

-- a turn that was blocked has the result that says so
blocked_is : (x : TurnResult) → turn_of x ≡ turns.Blocked → x ≡ turn_result.Blocked
blocked_is turn_result.Over e = absurd (cc)
blocked_is turn_result.Blocked e = refl
blocked_is (turn_result.Told a) e = absurd (cc)

-- a turn that moved nothing has no answer
idle_is : (E : Type 0) (x : TurnResult) → is_moved (turn_of x) ≡ false → IsIdle {E = E} (Ok x)
idle_is E turn_result.Over e = tt
idle_is E turn_result.Blocked e = tt
idle_is E (turn_result.Told a) e = absurd (cc)

-- the task with more room for its replies
pub record HasRoom (t0 t : Tasked) : Type 0 where
  pub number : t.number ≡ t0.number
  pub program : t.task_state.program ≡ t0.task_state.program
  pub position : t.task_state.position ≡ t0.task_state.position
  pub passes : t.passes ≡ t0.passes

module _ (consts : WorldConsts) (t0 t : Tasked) (room : HasRoom t0 t) where
  -- the task makes the same turn as without the additional room
  pub goes_with : (old : State) (after : Turned) → Goes consts t old after
      → Goes consts t0 old after
  goes_with old after goes programs =
      let same : step_task (scene_of consts programs) t0.number t0.task_state.program old
      t0.task_state.position
      ≡ step_task (scene_of consts programs) t.number t.task_state.program old
      t.task_state.position =
      λ i. step_task (scene_of consts programs) (sym room.number i) (sym room.program i) old
      (sym room.position i) in
      same ∙ goes programs

  -- what blocks the step is the same as without the additional room
  blocked_with : (passes : PassesValue)
      → IsBlockedBy consts t.number t.passes passes
      (step_at t.task_state.program t.task_state.position.call_state)
      → IsBlockedBy consts t0.number t0.passes passes
      (step_at t0.task_state.program t0.task_state.position.call_state)
  blocked_with passes b =
      let due : step_at t.task_state.program t.task_state.position.call_state
      ≡ step_at t0.task_state.program t0.task_state.position.call_state =
      λ i. step_at (room.program i) (room.position i).call_state in
      subst (λ (n : ℕ). IsBlockedBy consts n t0.passes passes
      (step_at t0.task_state.program t0.task_state.position.call_state)) room.number
      (subst (λ (p : PassesValue). IsBlockedBy consts t.number p passes
      (step_at t0.task_state.program t0.task_state.position.call_state)) room.passes
      (subst (λ (z : Option Step). IsBlockedBy consts t.number t.passes passes z) due b))

  module _ {E : Type 0} (passes : PassesValue) (g : HashState) (r : Result TurnResult E)
      (x : TurnResult) (is : r ≡ Ok x) (m : TurnsToMet consts t passes g r) (turn : Turn)
      (turn_is : turn ≡ turn_of x) where
    -- the turn of the task, after which its answer was taken if there is one
    pub steps_with : (mode : Mode) (task_state : TaskValue) → mode ≡ mode_in consts
        → GoesOn mode t.task_state task_state x
        → StepsTo consts t0 (task_after t task_state passes g) turn
    steps_with mode task_state same on = record {
      old = m.old;
      goes = subst (λ (z : Turn). Goes consts t0 m.old
          (turned_to (state_seen passes) task_state.position z)) (sym turn_is)
          (goes_with m.old (turned_to (state_seen passes) task_state.position (turn_of x))
          (turned_goes consts t m.old (state_seen passes) passes g r mode task_state x is m.reaches
          same on));
    }

    -- what blocks the step of the task, if it is blocked
    pub blocked_by : turn ≡ turns.Blocked → IsBlockedBy consts t0.number t0.passes passes
        (step_at t0.task_state.program t0.task_state.position.call_state)
    blocked_by b =
        blocked_with passes (m.blocked (is ∙ ap (λ (z : TurnResult). Ok z)
        (blocked_is x (sym turn_is ∙ b))))

    -- if the task made no step, its passes have no new entries
    pub idle_adds : is_moved turn ≡ false → mines_of passes ≡ mines_of t0.passes
    idle_adds still =
        m.idle (subst (λ (z : Result TurnResult E). IsIdle z) (sym is)
        (idle_is E x (ap is_moved (sym turn_is) ∙ still)))
        ∙ ap (λ (p : PassesValue). mines_of p) room.passes

-- a proposition that holds in any case holds of an error
pub on_err : {A E : Type 0} (r : Result A E) (P : Type 0) → P → OnErr r P
on_err (Ok x) P p = tt
on_err (Err e) P p = p
