-- A task's state doesn't depend on what a report's lines leave out.
use Rattle.std.proofs.Common.{◌≡◌, ℕ, Bool, true, false, List, Option, Some, None, unwrap_or, option_map, if◌then◌else◌, refl, sym, ap, ◌∙◌}
use Rattle.inode_meta.specs.declared.appraisal.Mode.{Mode}
use Rattle.inode_events.specs.policy.declared.access.Action.{Action}
use Rattle.inode_events.specs.declared.told.Told.{Told}
use Rattle.inode_events.specs.declared.told.Told.TheVariants as told
use Rattle.call_steps.specs.CallState.{CallState, Progress, Step, after_of, ask_of, begun, handle_made, is_done, moved, number_of, plain_step, progress_of, step_by}
use Rattle.call_steps.specs.CallState.{Does, Checks}
use Rattle.call_steps.specs.Steps.{asks_in, course_of, due, has_read, next_by, reply_of, take}
use Rattle.call_steps.specs.declared.course.Course.{Course}
use Rattle.call_steps.specs.declared.course.Course.TheVariants as course
use Rattle.call_steps.specs.declared.due.Due.{Due}
use Rattle.call_steps.specs.declared.due.Next.{Next}
use Rattle.call_steps.specs.declared.due.Next.TheVariants.{On, Over}
use Rattle.call_steps.specs.declared.ask.Ask.{Ask}
use Rattle.call_steps.specs.declared.ask.Ask.TheVariants as ask
use Rattle.call_steps.specs.declared.call.Call.{Call}
use Rattle.call_steps.specs.declared.call.Call.TheVariants as call
use Rattle.call_steps.specs.Handles.{name_made}
use Rattle.call_steps.specs.declared.held.Handle.{Handle}
use Rattle.call_steps.specs.declared.held.Name.{Name}
use Rattle.call_steps.specs.declared.reply.Reply.{Reply}
use Rattle.call_steps.specs.declared.reply.Reply.TheVariants as reply
use Rattle.run_model.specs.History.{Answer, Position, call_at, resume, resume_in, step_at, step_in, who_at, who_in}
use Rattle.run_model.specs.Scene.{Program}
use Rattle.report_text.specs.Printed.{no_digest, printed_told}

-- ---- replies and states without the digest of a read

abbrev pub plain_reply : Reply → Reply
plain_reply (reply.Bytes n digest) = reply.Bytes n no_digest
plain_reply r = r

abbrev plain_due : Due → Due
plain_due p = record { ask = p.ask; reply = plain_reply p.reply }

abbrev plain_next : Next → Next
plain_next (On p) = On (plain_due p)
plain_next (Over r) = Over (plain_reply r)

abbrev plain_progress : Progress → Progress
plain_progress g = record {
  due = plain_due g.due;
  step = g.step;
  inode = g.inode;
  file = g.file;
  how = g.how;
}

abbrev pub plain_call_state : CallState → CallState
plain_call_state m = record {
  at = m.at;
  progress = option_map plain_progress m.progress;
  handles =
      m.handles;
}

-- erasing a reply's digest twice is the same as erasing it once
plain_twice : (r : Reply) → plain_reply (plain_reply r) ≡ plain_reply r
plain_twice reply.Done = refl
plain_twice (reply.Bytes n d) = refl
plain_twice reply.NotFound = refl
plain_twice reply.BadFile = refl
plain_twice reply.TextBusy = refl
plain_twice reply.TooBig = refl
plain_twice reply.TooLong = refl
plain_twice reply.NoData = refl
plain_twice reply.Invalid = refl
plain_twice reply.EvmName = refl
plain_twice reply.NotAdmin = refl
plain_twice (reply.Status s) = refl
plain_twice (reply.Denied c) = refl

-- erasing a reply's digest doesn't change whether the reply is `Done`
done_plain : (r : Reply) → is_done (plain_reply r) ≡ is_done r
done_plain reply.Done = refl
done_plain (reply.Bytes n d) = refl
done_plain reply.NotFound = refl
done_plain reply.BadFile = refl
done_plain reply.TextBusy = refl
done_plain reply.TooBig = refl
done_plain reply.TooLong = refl
done_plain reply.NoData = refl
done_plain reply.Invalid = refl
done_plain reply.EvmName = refl
done_plain reply.NotAdmin = refl
done_plain (reply.Status s) = refl
done_plain (reply.Denied c) = refl

-- ---- the next step

-- the printed outcome determines the reply, up to its digest
reply_plain : (t : Told) → plain_reply (reply_of t) ≡ plain_reply (reply_of (printed_told t))
reply_plain (told.Image i) = refl
reply_plain told.Held = refl
reply_plain told.NotFound = refl
reply_plain told.TextBusy = refl
reply_plain told.Quiet = refl
reply_plain (told.OpenWriters k) = refl
reply_plain (told.ToMToU k) = refl
reply_plain told.Begun = refl
reply_plain (told.Grant g) = refl
reply_plain told.More = refl
reply_plain told.Last = refl
reply_plain (told.Read n d) = refl
reply_plain told.Done = refl
reply_plain told.TooBig = refl
reply_plain told.EvmName = refl
reply_plain told.NotAdmin = refl
reply_plain told.TooLong = refl
reply_plain told.Invalid = refl
reply_plain told.NoData = refl
reply_plain (told.Status s) = refl
reply_plain told.Dropped = refl
reply_plain told.LabelledDropped = refl
reply_plain told.Nothing = refl

-- the step after a read depends on the digest only through the reply
read_plain : (c : Course) (r s : Reply) → plain_reply r ≡ plain_reply s
    → plain_next (has_read c r) ≡ plain_next (has_read c s)
read_plain (course.Open h trunc) r s e = ap (λ x. Over x) e
read_plain course.Mmap r s e = ap (λ x. Over x) e
read_plain course.Exec r s e = ap (λ x. Over x) e
read_plain course.Module r s e = ap (λ x. On (due ask.Close x)) e
read_plain course.Firmware r s e = ap (λ x. On (due ask.Close x)) e
read_plain course.Other r s e = ap (λ x. Over x) e

-- the step after a check depends on the digest only through the reply
check_plain : (c : Course) (r : Reply) (b : Bool) (x : Next)
    → plain_next (if b then On (due (take c) r) else x)
    ≡ plain_next (if b then On (due (take c) (plain_reply r)) else x)
check_plain c r true x = ap (λ y. On (due (take c) y)) (sym (plain_twice r))
check_plain c r false x = refl

-- a step that is due depends on the digest only through the reply
goes_plain : (a : Ask) (r : Reply) → plain_next (On (due a r))
    ≡ plain_next (On (due a (plain_reply r)))
goes_plain a r = ap (λ y. On (due a y)) (sym (plain_twice r))

-- the end of a call depends on the digest only through the reply
over_plain : (r : Reply) → plain_next (Over r) ≡ plain_next (Over (plain_reply r))
over_plain r = ap (λ y. Over y) (sym (plain_twice r))

-- the printed outcome determines a call's end with the outcome's reply, up to a digest
told_plain : (t : Told) → plain_next (Over (reply_of t))
    ≡ plain_next (Over (reply_of (printed_told t)))
told_plain t = ap (λ y. Over y) (reply_plain t)

-- the printed outcome determines what comes next, up to a digest
next_plain : (mode : Mode) (c : Course) (r : Reply) (a : Ask) (t : Told) (action : Action)
    → plain_next (next_by mode c a r t action)
    ≡ plain_next (next_by mode c a (plain_reply r) (printed_told t) action)
next_plain mode c r ask.Count (told.Image wi) action = told_plain (told.Image wi)
next_plain mode c r ask.Count told.Held action = goes_plain _ r
next_plain mode c r ask.Count told.NotFound action = told_plain told.NotFound
next_plain mode c r ask.Count told.TextBusy action = told_plain told.TextBusy
next_plain mode c r ask.Count told.Quiet action = told_plain told.Quiet
next_plain mode c r ask.Count (told.OpenWriters wk) action = told_plain (told.OpenWriters wk)
next_plain mode c r ask.Count (told.ToMToU wk) action = told_plain (told.ToMToU wk)
next_plain mode c r ask.Count told.Begun action = told_plain told.Begun
next_plain mode c r ask.Count (told.Grant wg) action = told_plain (told.Grant wg)
next_plain mode c r ask.Count told.More action = told_plain told.More
next_plain mode c r ask.Count told.Last action = told_plain told.Last
next_plain mode c r ask.Count (told.Read wn wd) action = told_plain (told.Read wn wd)
next_plain mode c r ask.Count told.Done action = told_plain told.Done
next_plain mode c r ask.Count told.TooBig action = told_plain told.TooBig
next_plain mode c r ask.Count told.EvmName action = told_plain told.EvmName
next_plain mode c r ask.Count told.NotAdmin action = told_plain told.NotAdmin
next_plain mode c r ask.Count told.TooLong action = told_plain told.TooLong
next_plain mode c r ask.Count told.Invalid action = told_plain told.Invalid
next_plain mode c r ask.Count told.NoData action = told_plain told.NoData
next_plain mode c r ask.Count (told.Status ws) action = told_plain (told.Status ws)
next_plain mode c r ask.Count told.Dropped action = told_plain told.Dropped
next_plain mode c r ask.Count told.LabelledDropped action = told_plain told.LabelledDropped
next_plain mode c r ask.Count told.Nothing action = told_plain told.Nothing
next_plain mode c r (ask.Check vf vm) t action = check_plain c r (asks_in mode action) _
next_plain mode c r (ask.Take vs) (told.Image wi) action = goes_plain _ r
next_plain mode c r (ask.Take vs) told.Held action = goes_plain _ r
next_plain mode c r (ask.Take vs) told.NotFound action = goes_plain _ r
next_plain mode c r (ask.Take vs) told.TextBusy action = goes_plain _ r
next_plain mode c r (ask.Take vs) told.Quiet action = goes_plain _ r
next_plain mode c r (ask.Take vs) (told.OpenWriters wk) action = goes_plain _ r
next_plain mode c r (ask.Take vs) (told.ToMToU wk) action = goes_plain _ r
next_plain mode c r (ask.Take vs) told.Begun action = goes_plain _ r
next_plain mode c r (ask.Take vs) (told.Grant wg) action = refl
next_plain mode c r (ask.Take vs) told.More action = goes_plain _ r
next_plain mode c r (ask.Take vs) told.Last action = goes_plain _ r
next_plain mode c r (ask.Take vs) (told.Read wn wd) action = goes_plain _ r
next_plain mode c r (ask.Take vs) told.Done action = goes_plain _ r
next_plain mode c r (ask.Take vs) told.TooBig action = goes_plain _ r
next_plain mode c r (ask.Take vs) told.EvmName action = goes_plain _ r
next_plain mode c r (ask.Take vs) told.NotAdmin action = goes_plain _ r
next_plain mode c r (ask.Take vs) told.TooLong action = goes_plain _ r
next_plain mode c r (ask.Take vs) told.Invalid action = goes_plain _ r
next_plain mode c r (ask.Take vs) told.NoData action = goes_plain _ r
next_plain mode c r (ask.Take vs) (told.Status ws) action = goes_plain _ r
next_plain mode c r (ask.Take vs) told.Dropped action = goes_plain _ r
next_plain mode c r (ask.Take vs) told.LabelledDropped action = goes_plain _ r
next_plain mode c r (ask.Take vs) told.Nothing action = goes_plain _ r
next_plain mode c r ask.Chunk (told.Image wi) action = goes_plain _ r
next_plain mode c r ask.Chunk told.Held action = goes_plain _ r
next_plain mode c r ask.Chunk told.NotFound action = goes_plain _ r
next_plain mode c r ask.Chunk told.TextBusy action = goes_plain _ r
next_plain mode c r ask.Chunk told.Quiet action = goes_plain _ r
next_plain mode c r ask.Chunk (told.OpenWriters wk) action = goes_plain _ r
next_plain mode c r ask.Chunk (told.ToMToU wk) action = goes_plain _ r
next_plain mode c r ask.Chunk told.Begun action = goes_plain _ r
next_plain mode c r ask.Chunk (told.Grant wg) action = goes_plain _ r
next_plain mode c r ask.Chunk told.More action = goes_plain _ r
next_plain mode c r ask.Chunk told.Last action = goes_plain _ r
next_plain mode c r ask.Chunk (told.Read wn wd) action = goes_plain _ r
next_plain mode c r ask.Chunk told.Done action = goes_plain _ r
next_plain mode c r ask.Chunk told.TooBig action = goes_plain _ r
next_plain mode c r ask.Chunk told.EvmName action = goes_plain _ r
next_plain mode c r ask.Chunk told.NotAdmin action = goes_plain _ r
next_plain mode c r ask.Chunk told.TooLong action = goes_plain _ r
next_plain mode c r ask.Chunk told.Invalid action = goes_plain _ r
next_plain mode c r ask.Chunk told.NoData action = goes_plain _ r
next_plain mode c r ask.Chunk (told.Status ws) action = goes_plain _ r
next_plain mode c r ask.Chunk told.Dropped action = goes_plain _ r
next_plain mode c r ask.Chunk told.LabelledDropped action = goes_plain _ r
next_plain mode c r ask.Chunk told.Nothing action = goes_plain _ r
next_plain mode c r ask.Finish (told.Image wi) action = over_plain r
next_plain mode c r ask.Finish told.Held action = over_plain r
next_plain mode c r ask.Finish told.NotFound action = over_plain r
next_plain mode c r ask.Finish told.TextBusy action = over_plain r
next_plain mode c r ask.Finish told.Quiet action = over_plain r
next_plain mode c r ask.Finish (told.OpenWriters wk) action = over_plain r
next_plain mode c r ask.Finish (told.ToMToU wk) action = over_plain r
next_plain mode c r ask.Finish told.Begun action = over_plain r
next_plain mode c r ask.Finish (told.Grant wg) action = refl
next_plain mode c r ask.Finish told.More action = over_plain r
next_plain mode c r ask.Finish told.Last action = over_plain r
next_plain mode c r ask.Finish (told.Read wn wd) action = over_plain r
next_plain mode c r ask.Finish told.Done action = over_plain r
next_plain mode c r ask.Finish told.TooBig action = over_plain r
next_plain mode c r ask.Finish told.EvmName action = over_plain r
next_plain mode c r ask.Finish told.NotAdmin action = over_plain r
next_plain mode c r ask.Finish told.TooLong action = over_plain r
next_plain mode c r ask.Finish told.Invalid action = over_plain r
next_plain mode c r ask.Finish told.NoData action = over_plain r
next_plain mode c r ask.Finish (told.Status ws) action = over_plain r
next_plain mode c r ask.Finish told.Dropped action = over_plain r
next_plain mode c r ask.Finish told.LabelledDropped action = over_plain r
next_plain mode c r ask.Finish told.Nothing action = over_plain r
next_plain mode c r (ask.Read vo vn) t action =
    read_plain c (reply_of t) (reply_of (printed_told t)) (reply_plain t)
next_plain mode c r ask.Write t action = told_plain t
next_plain mode c r (ask.Trunc vn) t action = told_plain t
next_plain mode c r ask.SetAttr t action = told_plain t
next_plain mode c r ask.SetMeta t action = told_plain t
next_plain mode c r ask.Close t action = over_plain r
next_plain mode c r ask.CloseTake (told.Image wi) action = over_plain r
next_plain mode c r ask.CloseTake told.Held action = over_plain r
next_plain mode c r ask.CloseTake told.NotFound action = over_plain r
next_plain mode c r ask.CloseTake told.TextBusy action = over_plain r
next_plain mode c r ask.CloseTake told.Quiet action = over_plain r
next_plain mode c r ask.CloseTake (told.OpenWriters wk) action = over_plain r
next_plain mode c r ask.CloseTake (told.ToMToU wk) action = over_plain r
next_plain mode c r ask.CloseTake told.Begun action = goes_plain _ r
next_plain mode c r ask.CloseTake (told.Grant wg) action = over_plain r
next_plain mode c r ask.CloseTake told.More action = over_plain r
next_plain mode c r ask.CloseTake told.Last action = over_plain r
next_plain mode c r ask.CloseTake (told.Read wn wd) action = over_plain r
next_plain mode c r ask.CloseTake told.Done action = over_plain r
next_plain mode c r ask.CloseTake told.TooBig action = over_plain r
next_plain mode c r ask.CloseTake told.EvmName action = over_plain r
next_plain mode c r ask.CloseTake told.NotAdmin action = over_plain r
next_plain mode c r ask.CloseTake told.TooLong action = over_plain r
next_plain mode c r ask.CloseTake told.Invalid action = over_plain r
next_plain mode c r ask.CloseTake told.NoData action = over_plain r
next_plain mode c r ask.CloseTake (told.Status ws) action = over_plain r
next_plain mode c r ask.CloseTake told.Dropped action = over_plain r
next_plain mode c r ask.CloseTake told.LabelledDropped action = over_plain r
next_plain mode c r ask.CloseTake told.Nothing action = over_plain r
next_plain mode c r ask.CloseChunk (told.Image wi) action = goes_plain _ r
next_plain mode c r ask.CloseChunk told.Held action = goes_plain _ r
next_plain mode c r ask.CloseChunk told.NotFound action = goes_plain _ r
next_plain mode c r ask.CloseChunk told.TextBusy action = goes_plain _ r
next_plain mode c r ask.CloseChunk told.Quiet action = goes_plain _ r
next_plain mode c r ask.CloseChunk (told.OpenWriters wk) action = goes_plain _ r
next_plain mode c r ask.CloseChunk (told.ToMToU wk) action = goes_plain _ r
next_plain mode c r ask.CloseChunk told.Begun action = goes_plain _ r
next_plain mode c r ask.CloseChunk (told.Grant wg) action = goes_plain _ r
next_plain mode c r ask.CloseChunk told.More action = goes_plain _ r
next_plain mode c r ask.CloseChunk told.Last action = goes_plain _ r
next_plain mode c r ask.CloseChunk (told.Read wn wd) action = goes_plain _ r
next_plain mode c r ask.CloseChunk told.Done action = goes_plain _ r
next_plain mode c r ask.CloseChunk told.TooBig action = goes_plain _ r
next_plain mode c r ask.CloseChunk told.EvmName action = goes_plain _ r
next_plain mode c r ask.CloseChunk told.NotAdmin action = goes_plain _ r
next_plain mode c r ask.CloseChunk told.TooLong action = goes_plain _ r
next_plain mode c r ask.CloseChunk told.Invalid action = goes_plain _ r
next_plain mode c r ask.CloseChunk told.NoData action = goes_plain _ r
next_plain mode c r ask.CloseChunk (told.Status ws) action = goes_plain _ r
next_plain mode c r ask.CloseChunk told.Dropped action = goes_plain _ r
next_plain mode c r ask.CloseChunk told.LabelledDropped action = goes_plain _ r
next_plain mode c r ask.CloseChunk told.Nothing action = goes_plain _ r
next_plain mode c r ask.CloseFinish t action = over_plain r
next_plain mode c r ask.Plain t action = over_plain r

-- ---- the effect of a step on the state

-- the handle that a call makes doesn't depend on the digest
made_plain : (o : Option Name) (g : Progress) → handle_made o (plain_progress g) ≡ handle_made o g
made_plain None g = refl
made_plain (Some n) g = refl

-- what comes next, up to a digest, determines the state, up to a digest
moved_plain : (c : Call) (m : CallState) (g : Progress) (place : ℕ) (x : Next)
    → plain_call_state (moved c m g place x).0
    ≡ plain_call_state (moved c (plain_call_state m) (plain_progress g) place (plain_next x)).0
moved_plain c m g place (On p) = rw (plain_twice p.reply) refl
moved_plain c m g place (Over r) = rw (done_plain r, made_plain (name_made c) g) refl

-- the place of a step's event, or 0 if the step makes no event on an inode
abbrev pub place_in : Option Step → ℕ → ℕ
place_in (Some (Does inode d)) place = place
place_in (Some (Checks inode file f mask)) place = place
place_in _ place = 0

abbrev number_in : Ask → ℕ → ℕ
number_in ask.Plain place = 0
number_in _ place = place

-- the state after a step that makes no event doesn't depend on a place
moved_place : (mode : Mode) (c : Call) (m : CallState) (g : Progress) (a : Ask) (r : Reply)
    (place : ℕ) (t : Told) (action : Action)
    → moved c m g place (next_by mode (course_of c) a r t action)
    ≡ moved c m g (number_in a place) (next_by mode (course_of c) a r t action)
moved_place mode c m g ask.Count r place t action = refl
moved_place mode c m g (ask.Check vf vm) r place t action = refl
moved_place mode c m g (ask.Take vs) r place t action = refl
moved_place mode c m g ask.Chunk r place t action = refl
moved_place mode c m g ask.Finish r place t action = refl
moved_place mode c m g (ask.Read vo vn) r place t action = refl
moved_place mode c m g ask.Write r place t action = refl
moved_place mode c m g (ask.Trunc vn) r place t action = refl
moved_place mode c m g ask.SetAttr r place t action = refl
moved_place mode c m g ask.SetMeta r place t action = refl
moved_place mode c m g ask.Close r place t action = refl
moved_place mode c m g ask.CloseTake r place t action = refl
moved_place mode c m g ask.CloseChunk r place t action = refl
moved_place mode c m g ask.CloseFinish r place t action = refl
moved_place mode c m g ask.Plain r place t action = refl

-- a step that makes no event on an inode has the place 0
plain_step_place : (admin : Bool) (c : Call) (place : ℕ)
    → place_in (Some (plain_step admin c)) place ≡ 0
plain_step_place admin (call.Open vf vi vh vt) place = refl
plain_step_place admin (call.Read vf vo vn) place = refl
plain_step_place admin (call.Write vf vo vb) place = refl
plain_step_place admin (call.Ftruncate vf vn) place = refl
plain_step_place admin (call.Close vf) place = refl
plain_step_place admin (call.Mmap vm vf ve) place = refl
plain_step_place admin (call.Mread vm vo vn) place = refl
plain_step_place admin (call.Munmap vm) place = refl
plain_step_place admin (call.Exec vr vi) place = refl
plain_step_place admin (call.Endexec vr) place = refl
plain_step_place admin (call.SetAttr vi vn vv) place = refl
plain_step_place admin (call.SetMeta vi vc) place = refl
plain_step_place admin (call.Post vs) place = refl
plain_step_place admin (call.Wait vs) place = refl
plain_step_place admin (call.Module vi) place = refl
plain_step_place admin (call.Firmware vi) place = refl
plain_step_place true (call.AddRule vr) place = refl
plain_step_place false (call.AddRule vr) place = refl

-- the place that is due is that of the step
step_place : (admin : Bool) (c : Call) (g : Progress) (a : Ask) (place : ℕ) → number_in a place
    ≡ place_in (Some (step_by admin c g a)) place
step_place admin c g ask.Count place = refl
step_place admin c g (ask.Check vf vm) place = refl
step_place admin c g (ask.Take vs) place = refl
step_place admin c g ask.Chunk place = refl
step_place admin c g ask.Finish place = refl
step_place admin c g (ask.Read vo vn) place = refl
step_place admin c g ask.Write place = refl
step_place admin c g (ask.Trunc vn) place = refl
step_place admin c g ask.SetAttr place = refl
step_place admin c g ask.SetMeta place = refl
step_place admin c g ask.Close place = refl
step_place admin c g ask.CloseTake place = refl
step_place admin c g ask.CloseChunk place = refl
step_place admin c g ask.CloseFinish place = refl
step_place admin c g ask.Plain place = sym (plain_step_place admin c place)

-- the progress of the call, from a state without digests
abbrev pub far : Bool → Call → CallState → Progress
far admin c x = unwrap_or x.progress (plain_progress (begun admin x.handles c))

-- the state without digests determines the call's progress, up to a digest
far_is : (admin : Bool) (c : Call) (at : ℕ) (p : Option Progress) (hs : List Handle)
    → plain_progress (progress_of admin c (record { at = at; progress = p; handles = hs }))
    ≡ far admin c (plain_call_state (record { at = at; progress = p; handles = hs }))
far_is admin c at None hs = refl
far_is admin c at (Some g) hs = refl

-- the state after a step, computed from what the report shows
abbrev pub after_step : Mode → Bool → Call → CallState → Progress → ℕ → Told → Action → CallState
after_step mode admin c x g place t action =
    plain_call_state (moved c x g place
    (plain_next (next_by mode (course_of c) g.due.ask g.due.reply t action))).0

-- what the report shows determines the state after a step, up to a digest
after_plain : (mode : Mode) (admin : Bool) (c : Call) (m : CallState) (place : ℕ) (t : Told)
    (action : Action)
    → plain_call_state (after_of mode admin c m place t action).0
    ≡ after_step mode admin c (plain_call_state m) (far admin c (plain_call_state m))
    (place_in (Some (ask_of admin c m)) place) (printed_told t) action
after_plain mode admin c m place t action =
    let g = progress_of admin c m in
    ap (λ (x : CallState × Option Reply). plain_call_state x.0)
    (moved_place mode c m g g.due.ask g.due.reply place t action)
    ∙ moved_plain c m g (number_in g.due.ask place)
    (next_by mode (course_of c) g.due.ask g.due.reply t action)
    ∙ ap (λ (x : Next). plain_call_state
    (moved c (plain_call_state m) (plain_progress g) (number_in g.due.ask place) x).0)
    (next_plain mode (course_of c) g.due.reply g.due.ask t action)
    ∙ ap (λ (k : ℕ). plain_call_state
    (moved c (plain_call_state m) (plain_progress g) k
    (plain_next (next_by mode (course_of c) g.due.ask (plain_reply g.due.reply) (printed_told t)
    action))).0)
    (step_place admin c g g.due.ask place)
    ∙ ap (λ (f : Progress). after_step mode admin c (plain_call_state m) f
    (place_in (Some (ask_of admin c m)) place) (printed_told t) action)
    (far_is admin c m.at m.progress m.handles)

abbrev pub next_call_state : Mode → Program → Option Call → CallState → ℕ → Told → Action
    → CallState
next_call_state mode p None x place t action = x
next_call_state mode p (Some c) x place t action =
    after_step mode p.cred.admin c x (far p.cred.admin c x) place t action

-- what the report shows determines the state after the step of a call that may be missing
resumed : (mode : Mode) (p : Program) (c : Option Call) (t : Position) (a : Answer)
    → plain_call_state (resume_in mode p c t a).call_state
    ≡ next_call_state mode p c (plain_call_state t.call_state)
    (place_in (step_in p c t.call_state) a.place) (printed_told a.told) a.action
resumed mode p None t a = refl
resumed mode p (Some c) t a = after_plain mode p.cred.admin c t.call_state a.place a.told a.action

-- what the report shows determines a task's state after a step, up to a digest
pub call_state_after : (mode : Mode) (p : Program) (t : Position) (a : Answer)
    → plain_call_state (resume mode p t a).call_state
    ≡ next_call_state mode p (call_at p (plain_call_state t.call_state))
    (plain_call_state t.call_state)
    (place_in (step_at p t.call_state) a.place) (printed_told a.told) a.action
call_state_after mode p t a = resumed mode p (call_at p t.call_state) t a

-- ---- a task's next step and its `Who`

-- the step that is due doesn't depend on the digest
step_by_plain : (admin : Bool) (c : Call) (g : Progress) (a : Ask) → step_by admin c g a
    ≡ step_by admin c (plain_progress g) a
step_by_plain admin c g ask.Count = refl
step_by_plain admin c g (ask.Check vf vm) = refl
step_by_plain admin c g (ask.Take vs) = refl
step_by_plain admin c g ask.Chunk = refl
step_by_plain admin c g ask.Finish = refl
step_by_plain admin c g (ask.Read vo vn) = refl
step_by_plain admin c g ask.Write = refl
step_by_plain admin c g (ask.Trunc vn) = refl
step_by_plain admin c g ask.SetAttr = refl
step_by_plain admin c g ask.SetMeta = refl
step_by_plain admin c g ask.Close = refl
step_by_plain admin c g ask.CloseTake = refl
step_by_plain admin c g ask.CloseChunk = refl
step_by_plain admin c g ask.CloseFinish = refl
step_by_plain admin c g ask.Plain = refl

-- the step that a state asks for doesn't depend on the digest
ask_plain : (admin : Bool) (c : Call) (at : ℕ) (p : Option Progress) (hs : List Handle)
    → ask_of admin c (record { at = at; progress = p; handles = hs })
    ≡ ask_of admin c (plain_call_state (record { at = at; progress = p; handles = hs }))
ask_plain admin c at None hs = refl
ask_plain admin c at (Some g) hs = step_by_plain admin c g g.due.ask

-- the number of the next step doesn't depend on the digest
number_plain : (admin : Bool) (c : Call) (at : ℕ) (p : Option Progress) (hs : List Handle)
    → number_of admin c (record { at = at; progress = p; handles = hs })
    ≡ number_of admin c (plain_call_state (record { at = at; progress = p; handles = hs }))
number_plain admin c at None hs = refl
number_plain admin c at (Some g) hs = refl

-- the next step of a call that may be missing doesn't depend on the digest
step_in_plain : (p : Program) (c : Option Call) (m : CallState) → step_in p c m
    ≡ step_in p c (plain_call_state m)
step_in_plain p None m = refl
step_in_plain p (Some c) m =
    ap (λ (x : Step). Some x) (ask_plain p.cred.admin c m.at m.progress m.handles)

-- the `Who` of the next step of a call that may be missing doesn't depend on the digest
who_in_plain : (n : ℕ) (p : Program) (c : Option Call) (m : CallState) → who_in n p c m
    ≡ who_in n p c (plain_call_state m)
who_in_plain n p None m = refl
who_in_plain n p (Some c) m =
    λ i. record {
      task = n;
      call = m.at;
      step = number_plain p.cred.admin c m.at m.progress m.handles
          i;
    }

-- a task's next step doesn't depend on the digest
pub step_plain : (p : Program) (m : CallState) → step_at p m ≡ step_at p (plain_call_state m)
step_plain p m = step_in_plain p (call_at p m) m

-- the `Who` of a task's next step doesn't depend on the digest
pub who_plain : (n : ℕ) (p : Program) (m : CallState)
    → who_at n p m ≡ who_at n p (plain_call_state m)
who_plain n p m = who_in_plain n p (call_at p m) m
