-- What a task can rely on at its turn, and its state after the turn.
use Rattle.std.proofs.Common.{◌≡◌, ℕ, ◌+◌, List, ◌∷◌, length, Option, Some, None, refl, sym, ◌∙◌, ap, subst}
use Rattle.std.specs.Prelude.{IfOk, OnErr, OnOk, Result, Ok, Err, slice_get, unwrap_or}
use Rattle.call_steps.specs.CallState.{Step}
use Rattle.call_steps.specs.CallState.{Appends, Checks, Does, Signals}
use Rattle.call_steps.specs.Steps.{given}
use Rattle.inode_events.specs.Checks.{no_action}
use Rattle.inode_events.specs.NewestFirst.{newest_first}
use Rattle.inode_events.specs.Semaphores.{semaphore_says}
use Rattle.inode_events.specs.declared.deed.Deed.{Deed}
use Rattle.inode_events.specs.declared.deed.Deed.TheVariants as deed
use Rattle.inode_events.specs.declared.told.Told.TheVariants as told
use Rattle.inode_meta.specs.declared.appraisal.Mode.{Mode}
use Rattle.inode_meta.specs.declared.appraisal.Slot.{Slot}
use Rattle.inode_meta.specs.declared.identity.Cred.{Cred}
use Rattle.inode_meta.specs.declared.step.Who.{Who}
use Rattle.policy_rules.specs.ActionValue.{ActionValue}
use Rattle.policy_rules.specs.RuleValue.{RuleValue}
use Rattle.policy_rules.specs.declared.rule.Func.{Func}
use Rattle.run_model.specs.History.{Answer, Position, resume, step_at, who_at}
use Rattle.run_model.specs.Scene.{Program}
use Rattle.run_model.specs.Turns.{State, step_due}
use Rattle.run_model.specs.declared.turn.Turn.TheVariants as turns
use Rattle.world_model.specs.WorldConsts.{WorldConsts, inode_in, mode_in, scene_of}
use Rattle.world_model.specs.Tasks.{ArePassesOf, HasPlayed, IsTask, PassesValue, Tasked}
use Rattle.world_model.specs.declared.hash_state.HashState.{HashState}
use Rattle.world_locks.proofs.about_worlds.Blocking.{task_of_who}
use Rattle.world_locks.proofs.about_worlds.Readying.{ready_by_look}
use Rattle.world_locks.specs.worlds.Due.{slot_in}
use Rattle.world_locks.specs.worlds.Plays.{task_after, task_left}
use Rattle.world_locks.specs.worlds.Ready.{HasLooked, IsReady, IsStepOn}
use Rattle.world_locks.specs.acts.declared.listed.Checks.{Checks as Asked}
use Rattle.task_state.specs.Steps.{step_in}
use Rattle.task_state.specs.Value.{IsSameTask, TaskValue, due_at}
use Rattle.task_state.specs.declared.step.Step.{Step as Named}
use Rattle.world_locks.proofs.about_acts.Checked.{check_reaches}
use Rattle.world_locks.proofs.about_acts.Reaching.{does_reaches, same_left}
use Rattle.world_locks.proofs.about_acts.Sharing.{appends_tells, signals_reach}
use Rattle.world_locks.specs.acts.Acting.{EventIn, IsPlacedAt, IsSaid, ReadyAt, told_in, told_of}
use Rattle.world_locks.specs.acts.Checking.{CheckIn}
use Rattle.world_locks.specs.acts.Sharing.{AppendsTo, SignalsOn}
use Rattle.task_core.specs.GoesOn.{GoesOn, turn_of, turn_told}
use Rattle.world_locks.specs.acts.Turning.{Fails, Goes, StillPlays, Stops, Tells, TurnsTo, answer_of, turn_result_of, turned_to}
use Rattle.world_locks.specs.acts.declared.answers.StepResult.{StepResult}
use Rattle.world_locks.specs.acts.declared.answers.TurnResult.{TurnResult}
use Rattle.world_locks.specs.acts.declared.answers.TurnResult.TheVariants as turn_result

module _ (consts : WorldConsts) (n room : ℕ) (g : HashState) (passes : PassesValue)
    (h : List Answer) where
  -- the task with these parts of its state has played the history
  abbrev PlayedWith : Program → Position → ActionValue → Type 0
  PlayedWith p t c = HasPlayed consts (record {
    number = n;
    task_state = record { program = p; position = t; checked = c; spare = room };
    hash_state = g;
    passes = passes;
  }) h

  -- a state with equal parts has played the same history
  with_words : (a : TaskValue) (p : Program) (t : Position) (c : ActionValue) → a.program ≡ p
      → a.position ≡ t → a.checked ≡ c
      → HasPlayed consts (record { number = n; task_state = a; hash_state = g; passes = passes }) h
      → PlayedWith p t c
  with_words a p t c e f k x =
      subst (λ (q : Program). PlayedWith q t c) e
      (subst (λ (u : Position). PlayedWith a.program u c) f
      (subst (λ (d : ActionValue). PlayedWith a.program a.position d) k
      (record {
        calls = x.calls;
        stands = x.stands;
        checked = x.checked;
        passes = x.passes;
        events = x.events;
        placed = x.placed;
        signals = x.signals;
        rules = x.rules;
        unlisted = x.unlisted;
        checks = x.checks;
        rises = x.rises;
        hashed = x.hashed;
      })))

-- a task with other spare capacity has played the same history
played_same : (consts : WorldConsts) (n : ℕ) (a b : TaskValue) (g : HashState)
    (passes : PassesValue) (h : List Answer) → IsSameTask a b
    → HasPlayed consts (record { number = n; task_state = a; hash_state = g; passes = passes }) h
    → HasPlayed consts (record { number = n; task_state = b; hash_state = g; passes = passes }) h
played_same consts n a b g passes h s x =
    with_words consts n b.spare g passes h a b.program b.position b.checked (sym s.program)
    (sym s.position) (sym s.checked) x

-- a task with other spare capacity is a task of the same worlds
pub task_same : (consts : WorldConsts) (n : ℕ) (a b : TaskValue) (g : HashState)
    (passes : PassesValue) → IsSameTask a b
    → IsTask consts (record { number = n; task_state = a; hash_state = g; passes = passes })
    → IsTask consts (record { number = n; task_state = b; hash_state = g; passes = passes })
task_same consts n a b g passes s x = record {
  history = x.history;
  played = played_same consts n a b g passes x.history s x.played;
}

module _ (consts : WorldConsts) (t : Tasked) (is : IsTask consts t) where
  abbrev due : Option Step
  due = step_at t.task_state.program t.task_state.position.call_state

  abbrev who : Who
  who = who_at t.number t.task_state.program t.task_state.position.call_state

  -- after a look the task's step is ready
  pub turn_ready : (i : ℕ) (d : Deed) → IsStepOn i d due
      → ReadyAt consts i t.passes.inodes who.task t.hash_state t.task_state.checked
      (slot_in (due_at t.task_state.program t.task_state.position.call_state)) d
  turn_ready i d on s q list here at looked =
      let number = task_of_who t.number t.task_state.program t.task_state.position.call_state in
      subst (λ (n : ℕ). IsReady (inode_in consts s) (n + 1) list t.hash_state t.task_state.checked
      (slot_in (due_at t.task_state.program t.task_state.position.call_state)) d) (sym number)
      (ready_by_look consts t is.history i s q list d is.played here at
      (subst (λ (n : ℕ). HasLooked (inode_in consts s) (n + 1) q.seen list q.mine) number looked)
      on)

  -- the task's passes are those of the caller of its step
  pub passes_ready : (w : Who) → w ≡ who → ArePassesOf consts w.task t.passes
  passes_ready w e =
      let number = task_of_who t.number t.task_state.program t.task_state.position.call_state in
      subst (λ (x : Who). ArePassesOf consts x.task t.passes) (sym e)
      (subst (λ (n : ℕ). ArePassesOf consts n t.passes) (sym number) is.played.passes)

  -- the step is ready for any `Who`, action and slot that equal the task's
  ready_by : (w : Who) (action : ActionValue) (slot : Slot) (i : ℕ) (d : Deed) → w ≡ who
      → action ≡ t.task_state.checked
      → slot ≡ slot_in (due_at t.task_state.program t.task_state.position.call_state)
      → IsStepOn i d due
      → ReadyAt consts i t.passes.inodes w.task t.hash_state action slot d
  ready_by w action slot i d e f k on =
      subst (λ (x : Who). ReadyAt consts i t.passes.inodes x.task t.hash_state action slot d)
      (sym e)
      (subst (λ (a : ActionValue). ReadyAt consts i t.passes.inodes who.task t.hash_state a slot d)
      (sym f)
      (subst (λ (z : Slot). ReadyAt consts i t.passes.inodes who.task t.hash_state
      t.task_state.checked z d) (sym k) (turn_ready i d on)))

  pub does_ready : (w : Who) (action : ActionValue) (slot : Slot) (i : ℕ) (d : Deed) → w ≡ who
      → action ≡ t.task_state.checked
      → slot ≡ slot_in (due_at t.task_state.program t.task_state.position.call_state)
      → due ≡ Some (Does i d)
      → ReadyAt consts i t.passes.inodes w.task t.hash_state action slot d
  does_ready w action slot i d e f k st =
      ready_by w action slot i d e f k
      (subst (λ (o : Option Step). IsStepOn i d o) (sym st) (refl, refl))

  -- a check needs nothing hashed
  pub checks_ready : (w : Who) (action : ActionValue) (slot : Slot) (i file : ℕ) (func : Func)
      (mask : ℕ) → w ≡ who → action ≡ t.task_state.checked
      → slot ≡ slot_in (due_at t.task_state.program t.task_state.position.call_state)
      → due ≡ Some (Checks i file func mask)
      → (g : HashState) → ReadyAt consts i t.passes.inodes w.task g action slot
      (deed.Check file func no_action 0)
  checks_ready w action slot i file func mask e f k st g s q list here at looked =
      let d : Deed = deed.Check file func no_action 0 in
      let is : IsReady (inode_in consts s) (w.task + 1) list t.hash_state action slot d =
      ready_by w action slot i d e f k
      (subst (λ (o : Option Step). IsStepOn i d o) (sym st) (refl, refl)) s q list here at looked in
      record { may = is.may; by = is.by; hashes = tt; asks = tt }

-- the named step is the one that is due
pub due_is : (o : Option Step) (s x : Named) → s ≡ x → Some (step_in s) ≡ o
    → o ≡ Some (step_in x)
due_is o s x e f = sym f ∙ ap (λ (z : Named). Some (step_in z)) e

-- ---- how the turn ends

module _ (consts : WorldConsts) (t : Tasked) (old new : State) (passes : PassesValue) (w : Who)
    (w_is : w ≡ who_at t.number t.task_state.program t.task_state.position.call_state) where
  abbrev asks : Option Step
  asks = step_at t.task_state.program t.task_state.position.call_state

  -- a turn with a deed on an inode
  pub does_turn : {E : Type 0} (i : ℕ) (d : Deed) (g : HashState) (r : Result (Option StepResult) E)
      (x : Result TurnResult E) → asks ≡ Some (Does i d)
      → EventIn consts i (slice_get consts.each_inode i) w d old new t.passes passes t.hash_state g
      (told_in r)
      → IfOk r (IsSaid consts i d old) → x ≡ turn_result_of r
      → TurnsTo consts t old new passes g x
  does_turn {E} i d g r x st e said is =
      subst (λ (z : Result TurnResult E). TurnsTo consts t old new passes g z) (sym is)
      (does_reaches consts t i d old new passes g st r
      (subst (λ (y : Who). EventIn consts i (slice_get consts.each_inode i) y d old new
      t.passes passes t.hash_state g (told_in r)) w_is e) said)

  -- a turn with a check
  pub check_turn : {E : Type 0} (i : ℕ) (asked : Asked) (cred : Cred)
      (r : Result (Option StepResult) E) (x : Result TurnResult E)
      → asks ≡ Some (Checks i asked.file asked.func asked.mask)
      → cred ≡ t.task_state.program.cred
      → ((g : HashState)
      → CheckIn consts i (slice_get consts.each_inode i) w cred asked old new t.passes
      passes g r) → x ≡ turn_result_of r
      → TurnsTo consts t old new passes t.hash_state x
  check_turn {E} i asked cred r x st c e is =
      subst (λ (z : Result TurnResult E). TurnsTo consts t old new passes t.hash_state z) (sym is)
      (check_reaches consts t i asked.file asked.func asked.mask old new passes st r
      (subst (λ (y : Who). CheckIn consts i (slice_get consts.each_inode i) y
      t.task_state.program.cred asked old new t.passes passes t.hash_state r) w_is
      (subst (λ (k : Cred). CheckIn consts i (slice_get consts.each_inode i) w k asked old
      new t.passes passes t.hash_state r) c (e t.hash_state))))

  -- a turn with a post or a wait
  pub signals_turn : {E : Type 0} (d : Deed) (r : Result (Option StepResult) E)
      (x : Result TurnResult E) → asks ≡ Some (Signals d)
      → SignalsOn old new t.passes passes w d (told_in r)
      → IfOk r (λ o. (told_of o ≡ semaphore_says (newest_first old.signals) d)
      × IsPlacedAt (length old.signals) o) → x ≡ turn_result_of r
      → TurnsTo consts t old new passes t.hash_state x
  signals_turn {E} d r x st e said is =
      subst (λ (z : Result TurnResult E). TurnsTo consts t old new passes t.hash_state z) (sym is)
      (signals_reach consts t d old new passes st r
      (subst (λ (y : Who). SignalsOn old new t.passes passes y d (told_in r)) w_is e) said)

  -- a turn with an appended rule, or one that ran out of memory
  pub appends_turn : (rule : RuleValue) (a : StepResult) → asks ≡ Some (Appends rule)
      → AppendsTo old new t.passes passes (record { who = w; rule = rule })
      → (a.place ≡ length old.added) × (a.told ≡ told.Done) × (a.action ≡ None)
      → Tells consts t old new passes t.hash_state a
  appends_turn rule a st e said =
      appends_tells consts t rule old new passes st a
      (subst (λ (y : Who). AppendsTo old new t.passes passes (record { who = y; rule = rule }))
      w_is e) said

  pub appends_fail : (new ≡ old) × (passes ≡ t.passes)
      → Fails consts t old new passes t.hash_state
  appends_fail e =
      record { plays = same_left consts t passes t.hash_state e.1 refl; state = e.0 }

  -- a turn with a rule to append, however it ended
  pub rule_turn : {E : Type 0} (rule : RuleValue) (r : Result StepResult E)
      (x : Result TurnResult E) → asks ≡ Some (Appends rule)
      → OnOk r (AppendsTo old new t.passes passes (record { who = w; rule = rule }))
      → IfOk r (λ a. (a.place ≡ length old.added) × (a.told ≡ told.Done) × (a.action ≡ None))
      → OnErr r ((new ≡ old) × (passes ≡ t.passes)) → x ≡ turn_told r
      → TurnsTo consts t old new passes t.hash_state x
  rule_turn {E} rule (Ok a) x st e said err is =
      subst (λ (z : Result TurnResult E). TurnsTo consts t old new passes t.hash_state z) (sym is)
      (appends_turn rule a st e said)
  rule_turn {E} rule (Err d) x st e said err is =
      subst (λ (z : Result TurnResult E). TurnsTo consts t old new passes t.hash_state z) (sym is)
      (appends_fail err)

-- a turn of a program that is over
pub over_turn : (consts : WorldConsts) (t : Tasked) (old : State)
    → None ≡ step_at t.task_state.program t.task_state.position.call_state
    → Stops consts t old old t.passes t.hash_state turns.Done
over_turn consts t old st = record {
  plays = λ h x. x;
  goes = λ programs. ap (step_due (scene_of consts programs) t.number t.task_state.program
      old t.task_state.position) (sym st);
}

-- ---- the task after the turn

module _ (consts : WorldConsts) (t : Tasked) (old new : State) (passes : PassesValue)
    (g : HashState) where
  -- the task after it took the answer
  pub resumed_task : (a : StepResult) (task_state : TaskValue)
      (x : Tells consts t old new passes g a)
      → IsTask consts t → task_state.program ≡ t.task_state.program
      → task_state.position
      ≡ resume (mode_in consts) t.task_state.program t.task_state.position (answer_of a x.rules)
      → task_state.checked ≡ unwrap_or a.action t.task_state.checked
      → IsTask consts (task_after t task_state passes g)
  resumed_task a task_state x is program position checked = record {
    history = answer_of a x.rules ∷ is.history;
    played = x.plays is.history task_state is.played (record {
      program = program;
      position = position;
      checked = checked ∙ x.checked;
    });
  }

-- the task in its world after the turn, with the same constants
module _ (consts after : WorldConsts) (t : Tasked) (old new : State) (passes : PassesValue)
    (g : HashState) (same : after ≡ consts) (is : IsTask consts t) where
  -- the task after it took the answer is still one of its world
  told_still : (a : StepResult) (mode : Mode) (action : Option ActionValue) (task_state : TaskValue)
      → Tells consts t old new passes g a → mode ≡ mode_in consts → action ≡ a.action
      → task_state.program ≡ t.task_state.program
      → ((rules : ℕ) → task_state.position ≡ resume mode t.task_state.program t.task_state.position
      (record { place = a.place; told = a.told; action = given action; rules = rules }))
      → task_state.checked ≡ unwrap_or action t.task_state.checked
      → IsTask after (task_after t task_state passes g)
  told_still a mode action task_state x m k program position checked =
      subst (λ (y : WorldConsts). IsTask y (task_after t task_state passes g)) (sym same)
      (resumed_task consts t old new passes g a task_state x is program
      (position x.rules
      ∙ ap (λ (y : Mode). resume y t.task_state.program t.task_state.position
      (record { place = a.place; told = a.told; action = given action; rules = x.rules })) m
      ∙ ap (λ (y : Option ActionValue). resume (mode_in consts) t.task_state.program
      t.task_state.position
      (record { place = a.place; told = a.told; action = given y; rules = x.rules })) k)
      (checked ∙ ap (λ (y : Option ActionValue). unwrap_or y t.task_state.checked) k))

  -- the task that made no step is still one of its world
  pub left_still : StillPlays consts t passes g → IsTask after (task_left t passes g)
  left_still x =
      subst (λ (y : WorldConsts). IsTask y (task_left t passes g)) (sym same)
      (record { history = is.history; played = x is.history is.played })

  -- the task is still one of its world if its program was over, it was blocked, or it moved
  pub over_still : {E : Type 0} (r : Result TurnResult E) (x : TurnResult) (after_turn : Tasked)
      → r ≡ Ok x → x ≡ turn_result.Over → TurnsTo consts t old new passes g r
      → after_turn ≡ task_left t passes g → IsTask after after_turn
  over_still {E} r x after_turn e f h k =
      let stops : Stops consts t old new passes g turns.Done =
      subst (λ (z : Result TurnResult E). TurnsTo consts t old new passes g z)
      (e ∙ ap (λ (z : TurnResult). Ok z) f) h in
      subst (λ (z : Tasked). IsTask after z) (sym k) (left_still stops.plays)

  pub blocked_still : {E : Type 0} (r : Result TurnResult E) (x : TurnResult) (after_turn : Tasked)
      → r ≡ Ok x → x ≡ turn_result.Blocked → TurnsTo consts t old new passes g r
      → after_turn ≡ task_left t passes g → IsTask after after_turn
  blocked_still {E} r x after_turn e f h k =
      let stops : Stops consts t old new passes g turns.Blocked =
      subst (λ (z : Result TurnResult E). TurnsTo consts t old new passes g z)
      (e ∙ ap (λ (z : TurnResult). Ok z) f) h in
      subst (λ (z : Tasked). IsTask after z) (sym k) (left_still stops.plays)

  pub moved_still : {E : Type 0} (r : Result TurnResult E) (x : TurnResult) (after_turn : Tasked)
      (a : StepResult) (mode : Mode) (action : Option ActionValue) (task_state : TaskValue)
      → r ≡ Ok x → x ≡ turn_result.Told a → TurnsTo consts t old new passes g r
      → after_turn ≡ task_after t task_state passes g → mode ≡ mode_in consts → action ≡ a.action
      → task_state.program ≡ t.task_state.program
      → ((rules : ℕ) → task_state.position ≡ resume mode t.task_state.program t.task_state.position
      (record { place = a.place; told = a.told; action = given action; rules = rules }))
      → task_state.checked ≡ unwrap_or action t.task_state.checked
      → IsTask after after_turn
  moved_still {E} r x after_turn a mode action task_state e f h k m same_action program position
      checked =
      let tells : Tells consts t old new passes g a =
      subst (λ (z : Result TurnResult E). TurnsTo consts t old new passes g z)
      (e ∙ ap (λ (z : TurnResult). Ok z) f) h in
      subst (λ (z : Tasked). IsTask after z) (sym k)
      (told_still a mode action task_state tells m same_action program position checked)

-- the task that took the answer of its turn, if it has one, is still one of its world
pub turned_still : {E : Type 0} (consts after : WorldConsts) (t : Tasked) (old new : State)
    (passes : PassesValue) (g : HashState) → after ≡ consts → IsTask consts t
    → (r : Result TurnResult E) (mode : Mode) (task_state : TaskValue) (x : TurnResult)
    → r ≡ Ok x → TurnsTo consts t old new passes g r → mode ≡ mode_in consts
    → GoesOn mode t.task_state task_state x → IsTask after (task_after t task_state passes g)
turned_still consts after t old new passes g same is r mode task_state turn_result.Over e h m on =
    over_still consts after t old new passes g same is r turn_result.Over
    (task_after t task_state passes g) e refl h
    (ap (λ (s : TaskValue). task_after t s passes g) on)
turned_still consts after t old new passes g same is r mode task_state turn_result.Blocked e h m
    on =
    blocked_still consts after t old new passes g same is r turn_result.Blocked
    (task_after t task_state passes g) e refl h
    (ap (λ (s : TaskValue). task_after t s passes g) on)
turned_still consts after t old new passes g same is r mode task_state (turn_result.Told a) e h m
    on =
    moved_still consts after t old new passes g same is r (turn_result.Told a)
    (task_after t task_state passes g) a mode a.action task_state e refl h refl m refl on.program
    on.position on.checked

-- the turn that the task made, whether its answer was taken or there is none
pub turned_goes : {E : Type 0} (consts : WorldConsts) (t : Tasked) (old new : State)
    (passes : PassesValue) (g : HashState) (r : Result TurnResult E) (mode : Mode)
    (task_state : TaskValue) (x : TurnResult) → r ≡ Ok x → TurnsTo consts t old new passes g r
    → mode ≡ mode_in consts → GoesOn mode t.task_state task_state x
    → Goes consts t old (turned_to new task_state.position (turn_of x))
turned_goes {E} consts t old new passes g r mode task_state turn_result.Over e h m on =
    let stops : Stops consts t old new passes g turns.Done =
    subst (λ (z : Result TurnResult E). TurnsTo consts t old new passes g z) e h in
    subst (λ (s : TaskValue). Goes consts t old (turned_to new s.position turns.Done)) (sym on)
    stops.goes
turned_goes {E} consts t old new passes g r mode task_state turn_result.Blocked e h m on =
    let stops : Stops consts t old new passes g turns.Blocked =
    subst (λ (z : Result TurnResult E). TurnsTo consts t old new passes g z) e h in
    subst (λ (s : TaskValue). Goes consts t old (turned_to new s.position turns.Blocked)) (sym on)
    stops.goes
turned_goes {E} consts t old new passes g r mode task_state (turn_result.Told a) e h m on =
    let tells : Tells consts t old new passes g a =
    subst (λ (z : Result TurnResult E). TurnsTo consts t old new passes g z) e h in
    let resumed : resume (mode_in consts) t.task_state.program t.task_state.position
    (answer_of a tells.rules) ≡ task_state.position =
    sym (on.position tells.rules
    ∙ ap (λ (y : Mode). resume y t.task_state.program t.task_state.position
    (answer_of a tells.rules)) m) in
    subst (λ (u : Position). Goes consts t old (turned_to new u turns.Moved)) resumed tells.goes
