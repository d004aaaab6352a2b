-- The position of a task among its calls, and the effect of the outcome of its next step.
use Rattle.std.specs.Prelude.{ℕ, ◌+◌, Bool, true, false, List, [], ◌∷◌, ◌++◌, Option, Some, None, unwrap_or, if◌then◌else◌}
use Rattle.inode_events.specs.meta.declared.appraisal.Mode.{Mode}
use Rattle.inode_events.specs.policy.RuleValue.{RuleValue}
use Rattle.inode_events.specs.policy.declared.access.Action.{Action}
use Rattle.inode_events.specs.policy.declared.rule.Func.{Func}
use Rattle.inode_events.specs.declared.deed.Deed.{Deed}
use Rattle.inode_events.specs.declared.deed.Deed.TheVariants as deed
use Rattle.inode_events.specs.declared.deed.How.{How}
use Rattle.inode_events.specs.declared.told.Told.{Told}
use Rattle.call_steps.specs.Handles.{hand_of, name_ended, name_made, without}
use Rattle.call_steps.specs.Steps.{course_of, first, how_of, next}
use Rattle.call_steps.specs.declared.ask.Ask.{Ask}
use Rattle.call_steps.specs.declared.ask.Ask.TheVariants as ask
use Rattle.call_steps.specs.declared.call.Call.{Call}
use Rattle.call_steps.specs.declared.call.Call.TheVariants as call
use Rattle.call_steps.specs.declared.held.Handle.{Handle}
use Rattle.call_steps.specs.declared.held.Held.{Held}
use Rattle.call_steps.specs.declared.held.Name.{Name}
use Rattle.call_steps.specs.declared.reply.Reply.{Reply}
use Rattle.call_steps.specs.declared.reply.Reply.TheVariants as reply
use Rattle.call_steps.specs.declared.due.Next.{Next}
use Rattle.call_steps.specs.declared.due.Next.TheVariants.{On, Over}
use Rattle.call_steps.specs.declared.due.Due.{Due}

-- a call in progress: its next step with that step's number, and the file that its steps act on
pub record Progress : Type 0 where
  pub due : Due
  pub step : ℕ
  pub inode : ℕ
  pub file : ℕ
  pub how : How

-- a task between two steps: the number of its present or next call, the progress of that call, and
-- the files that the task holds
pub record CallState : Type 0 where
  pub at : ℕ
  pub progress : Option Progress
  pub handles : List Handle

abbrev pub fresh : CallState
fresh = record { at = 0; progress = None; handles = [] }

-- ---- how a call begins

-- the inode that the call names, or else that of the file which it uses
abbrev pub inode_of : Call → Option Held → ℕ
inode_of (call.Open fd inode h trunc) held = inode
inode_of (call.Exec run inode) held = inode
inode_of (call.SetAttr inode name value) held = inode
inode_of (call.SetMeta inode change) held = inode
inode_of (call.Module inode) held = inode
inode_of (call.Firmware inode) held = inode
inode_of c (Some h) = h.inode
inode_of c None = 0

-- the file that the call uses; a file that it is to count has no place yet
abbrev pub file_of : Option Held → ℕ
file_of (Some h) = h.file
file_of None = 0

abbrev pub how_held : Call → Option Held → How
how_held c (Some h) = h.how
how_held c None = how_of (course_of c)

abbrev pub begun : Bool → List Handle → Call → Progress
begun admin hs c =
    let hand = hand_of admin hs c in
    record {
      due = first c hand;
      step = 0;
      inode = inode_of c hand.held;
      file = file_of hand.held;
      how = how_held c hand.held;
    }

-- the progress of the present call, or of one that is to begin
abbrev pub progress_of : Bool → Call → CallState → Progress
progress_of admin c m = unwrap_or m.progress (begun admin m.handles c)

-- ---- the next step

-- the kinds of step: nothing, an event on an inode, a check of an inode, whose action the rules are
-- to give, a deed on the semaphores, or appending a rule
pub data Step : Type 0 where
  Nothing : Step
  Does : ℕ → Deed → Step
  Checks : ℕ → ℕ → Func → ℕ → Step
  Signals : Deed → Step
  Appends : RuleValue → Step

-- the only event of a call that writes, or changes attributes or metadata
abbrev pub deed_of : Bool → Call → ℕ → Deed
deed_of admin (call.Write fd from bytes) file = deed.Write file from bytes
deed_of admin (call.SetAttr inode name value) file = deed.SetAttr name value admin
deed_of admin (call.SetMeta inode change) file = deed.SetMeta change
deed_of admin _ file = deed.Birth

-- the step of a call that needs no event on an inode
abbrev pub plain_step : Bool → Call → Step
plain_step admin (call.Post sem) = Signals (deed.Post sem)
plain_step admin (call.Wait sem) = Signals (deed.Wait sem)
plain_step admin (call.AddRule rule) = if admin then Appends rule else Nothing
plain_step admin _ = Nothing

abbrev pub step_by : Bool → Call → Progress → Ask → Step
step_by admin c g ask.Count = Does g.inode (deed.Count g.how)
step_by admin c g (ask.Check func mask) = Checks g.inode g.file func mask
step_by admin c g (ask.Take slot) = Does g.inode (deed.Take g.file)
step_by admin c g ask.Chunk = Does g.inode (deed.Chunk g.file)
step_by admin c g ask.Finish = Does g.inode (deed.Finish g.file)
step_by admin c g (ask.Read from len) = Does g.inode (deed.Read g.file from len)
step_by admin c g ask.Write = Does g.inode (deed_of admin c g.file)
step_by admin c g (ask.Trunc len) = Does g.inode (deed.Trunc g.file len)
step_by admin c g ask.SetAttr = Does g.inode (deed_of admin c g.file)
step_by admin c g ask.SetMeta = Does g.inode (deed_of admin c g.file)
step_by admin c g ask.Close = Does g.inode (deed.Close g.file)
step_by admin c g ask.CloseTake = Does g.inode (deed.CloseTake g.file)
step_by admin c g ask.CloseChunk = Does g.inode (deed.CloseChunk g.file)
step_by admin c g ask.CloseFinish = Does g.inode (deed.CloseFinish g.file)
step_by admin c g ask.Plain = plain_step admin c

-- the step that the task makes next in its call
abbrev pub ask_of : Bool → Call → CallState → Step
ask_of admin c m = let g = progress_of admin c m in step_by admin c g g.due.ask

-- the number of the next step within its call
abbrev pub number_of : Bool → Call → CallState → ℕ
number_of admin c m = (progress_of admin c m).step

-- ---- the effect of the step's outcome on the task

-- a file that was counted is named by the place of its count
abbrev pub file_after : Ask → ℕ → ℕ → ℕ
file_after ask.Count place old = place
file_after _ place old = old

abbrev pub is_done : Reply → Bool
is_done reply.Done = true
is_done (reply.Bytes n digest) = true
is_done _ = false

abbrev pub handle_made : Option Name → Progress → List Handle
handle_made None g = []
handle_made (Some n) g = record { name = n; inode = g.inode; file = g.file; how = g.how } ∷ []

abbrev pub handles_left : Option Name → List Handle → List Handle
handles_left None hs = hs
handles_left (Some n) hs = without n hs

-- the files after an answered call: if it was done, it made a name or ended one
abbrev pub handles_after : Call → Progress → Reply → List Handle → List Handle
handles_after c g r hs = if is_done r then handles_left (name_ended c) hs
    ++ handle_made (name_made c) g else hs

abbrev pub moved : Call → CallState → Progress → ℕ → Next → CallState × Option Reply
moved c m g place (On s) = (
  record m {
    progress =
        Some (record g { due = s; step = g.step + 1; file = file_after g.due.ask place g.file });
  },
  None,
)
moved c m g place (Over r) =
    (record { at = m.at + 1; progress = None; handles = handles_after c g r m.handles }, Some r)

-- the task after its next step, given the place of the event, its outcome, and for a check its
-- action; the last step of a call gives a reply
abbrev pub after_of : Mode → Bool → Call → CallState → ℕ → Told → Action → CallState × Option Reply
after_of mode admin c m place t action =
    let g = progress_of admin c m in moved c m g place (next mode c g.due t action)
