-- The history of a task: the answer to each of its steps, newest first. The program and the history
-- alone determine the task's position, its replies, and the events that it made.
use Rattle.std.specs.Prelude.{ℕ, ◌==◌, List, [], ◌∷◌, ◌++◌, Option, Some, None, slice_get, if◌then◌else◌}
use Rattle.inode_meta.specs.declared.appraisal.Mode.{Mode}
use Rattle.inode_meta.specs.declared.step.Who.{Who}
use Rattle.call_steps.specs.policy.declared.access.Action.{Action}
use Rattle.call_steps.specs.events.Checks.{no_action}
use Rattle.call_steps.specs.events.declared.deed.Deed.{Deed}
use Rattle.call_steps.specs.events.declared.deed.Deed.TheVariants as deed
use Rattle.call_steps.specs.events.declared.told.Event.{Event}
use Rattle.call_steps.specs.events.declared.told.Told.{Told}
use Rattle.call_steps.specs.CallState.{CallState, Step, after_of, ask_of, fresh, number_of}
use Rattle.call_steps.specs.CallState.{Does, Checks, Signals, Appends}
use Rattle.call_steps.specs.declared.call.Call.{Call}
use Rattle.call_steps.specs.declared.reply.Reply.{Reply}
use Rattle.run_model.specs.Scene.{Program}
use Rattle.policy_cell.specs.declared.cell.RuleEntry.{RuleEntry}

-- the answer to one step: the place of its event or rule, the outcome, and for a check the action
-- and the number of rules that decided it
pub record Answer : Type 0 where
  pub place : ℕ
  pub told : Told
  pub action : Action
  pub rules : ℕ

-- the answer to a step that isn't a check
abbrev pub plain_answer : ℕ → Told → Answer
plain_answer place t = record { place = place; told = t; action = no_action; rules = 0 }

-- the position of a task, with its replies so far
pub record Position : Type 0 where
  pub call_state : CallState
  pub replies : List Reply

abbrev pub start : Position
start = record { call_state = fresh; replies = [] }

abbrev pub replied : List Reply → Option Reply → List Reply
replied replies None = replies
replied replies (Some r) = replies ++ r ∷ []

abbrev pub position_with : Position → CallState × Option Reply → Position
position_with t after = record { call_state = after.0; replies = replied t.replies after.1 }

-- the task takes the outcome of its step; a task whose program is over is unchanged
abbrev pub resume_in : Mode → Program → Option Call → Position → Answer → Position
resume_in mode p None t a = t
resume_in mode p (Some c) t a =
    position_with t (after_of mode p.cred.admin c t.call_state a.place a.told a.action)

abbrev pub call_at : Program → CallState → Option Call
call_at p m = slice_get p.calls m.at

abbrev pub resume : Mode → Program → Position → Answer → Position
resume mode p t a = resume_in mode p (call_at p t.call_state) t a

-- the task after the steps of the history
abbrev pub position : Mode → Program → List Answer → Position
position mode p [] = start
position mode p (a ∷ before) = resume mode p (position mode p before) a

-- ---- the steps

abbrev pub step_in : Program → Option Call → CallState → Option Step
step_in p None m = None
step_in p (Some c) m = Some (ask_of p.cred.admin c m)

-- the step that the task makes next, if its program isn't over
abbrev pub step_at : Program → CallState → Option Step
step_at p m = step_in p (call_at p m) m

abbrev pub who_in : ℕ → Program → Option Call → CallState → Who
who_in n p None m = record { task = n; call = m.at; step = 0 }
who_in n p (Some c) m = record { task = n; call = m.at; step = number_of p.cred.admin c m }

-- the Who of the next step, for task n
abbrev pub who_at : ℕ → Program → CallState → Who
who_at n p m = who_in n p (call_at p m) m

abbrev pub event : Who → Deed → Told → Event
event who d t = record { who = who; deed = d; told = t }

-- the event of a step, with its place, if it is in journal i
abbrev pub event_in : ℕ → Who → Option Step → Answer → List (ℕ × Event)
event_in i who (Some (Does inode d)) a =
    if inode == i then (a.place, event who d a.told) ∷ [] else []
event_in i who (Some (Checks inode file func mask)) a =
    if inode == i then (a.place, event who (deed.Check file func a.action a.rules) a.told)
    ∷ [] else []
event_in i who _ a = []

-- the rule that a step appends, with its place
abbrev pub rule_in : Who → Option Step → Answer → List (ℕ × RuleEntry)
rule_in who (Some (Appends rule)) a = (a.place, record { who = who; rule = rule }) ∷ []
rule_in who _ a = []

-- the deed of a step on the semaphores, with its place
abbrev pub signal_in : Who → Option Step → Answer → List (ℕ × Event)
signal_in who (Some (Signals d)) a = (a.place, event who d a.told) ∷ []
signal_in who _ a = []

-- ---- what the task made, oldest first

-- the task's events in journal i
abbrev pub own : Mode → ℕ → Program → ℕ → List Answer → List (ℕ × Event)
own mode n p i [] = []
own mode n p i (a ∷ before) =
    let m = (position mode p before).call_state in
    own mode n p i before ++ event_in i (who_at n p m) (step_at p m) a

-- the rules that the task appended
abbrev pub own_rules : Mode → ℕ → Program → List Answer → List (ℕ × RuleEntry)
own_rules mode n p [] = []
own_rules mode n p (a ∷ before) =
    let m = (position mode p before).call_state in
    own_rules mode n p before ++ rule_in (who_at n p m) (step_at p m) a

-- the task's posts and waits
abbrev pub own_signals : Mode → ℕ → Program → List Answer → List (ℕ × Event)
own_signals mode n p [] = []
own_signals mode n p (a ∷ before) =
    let m = (position mode p before).call_state in
    own_signals mode n p before ++ signal_in (who_at n p m) (step_at p m) a
