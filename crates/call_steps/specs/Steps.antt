-- The steps of a call, one after the other: which comes first, and which comes next given the
-- outcome of the step before.
use Rattle.std.specs.Prelude.{Bool, true, false, ◌&&◌, ◌||◌, not, Option, Some, None, unwrap_or, if◌then◌else◌}
use Rattle.inode_events.specs.meta.declared.appraisal.Mode.{Mode}
use Rattle.inode_events.specs.labels.declared.verdict.Cause.{Cause}
use Rattle.inode_events.specs.labels.declared.verdict.Verdict.{Verdict}
use Rattle.inode_events.specs.labels.declared.verdict.Verdict.TheVariants.{Deny}
use Rattle.inode_events.specs.policy.declared.access.Action.{Action}
use Rattle.inode_events.specs.policy.declared.access.Purpose.{Purpose}
use Rattle.inode_events.specs.policy.declared.access.Purpose.TheVariants as purpose
use Rattle.inode_events.specs.policy.Accesses.{func_of_purpose, mask_of_purpose, slot_of}
use Rattle.inode_events.specs.Checks.{is_off, no_action}
use Rattle.inode_events.specs.pages.Content.{most_bytes}
use Rattle.inode_events.specs.Files.{can_read, is_writer}
use Rattle.inode_events.specs.declared.deed.How.{How}
use Rattle.inode_events.specs.declared.deed.How.TheVariants as how
use Rattle.inode_events.specs.declared.told.Grant.{Grant}
use Rattle.inode_events.specs.declared.told.Told.{Told}
use Rattle.inode_events.specs.declared.told.Told.TheVariants as told
use Rattle.call_steps.specs.declared.ask.Ask.{Ask}
use Rattle.call_steps.specs.declared.ask.Ask.TheVariants as ask
use Rattle.call_steps.specs.declared.call.Call.{Call}
use Rattle.call_steps.specs.declared.call.Call.TheVariants as call
use Rattle.call_steps.specs.declared.course.Course.{Course}
use Rattle.call_steps.specs.declared.course.Course.TheVariants as course
use Rattle.call_steps.specs.declared.held.Hand.{Hand}
use Rattle.call_steps.specs.declared.held.Held.{Held}
use Rattle.call_steps.specs.declared.plan.Plan.{Plan}
use Rattle.call_steps.specs.declared.reply.Reply.{Reply}
use Rattle.call_steps.specs.declared.reply.Reply.TheVariants as reply
use Rattle.call_steps.specs.declared.due.Next.{Next}
use Rattle.call_steps.specs.declared.due.Next.TheVariants.{On, Over}
use Rattle.call_steps.specs.declared.due.Due.{Due}

-- a further step, and the reply that comes with the call's last one unless a later step decides
-- another
abbrev pub due : Ask → Reply → Due
due a r = record { ask = a; reply = r }

abbrev pub goes : Ask → Reply → Next
goes a r = On (due a r)

-- ---- the access of an open, a mapping, an execution or a read by the kernel

-- a mapping for reading alone raises no check
abbrev pub course_of : Call → Course
course_of (call.Open fd inode h trunc) = course.Open h trunc
course_of (call.Mmap map fd exec) = course.Mmap
course_of (call.Exec run inode) = course.Exec
course_of (call.Module inode) = course.Module
course_of (call.Firmware inode) = course.Firmware
course_of _ = course.Other

-- how the call's file is counted
abbrev pub how_of : Course → How
how_of (course.Open h trunc) = h
how_of _ = how.Exec

-- the purpose for which an open opens its file
abbrev pub purpose_of_open : How → Purpose
purpose_of_open (how.Write true create) = purpose.ReadWrite
purpose_of_open (how.Write false create) = purpose.Write
purpose_of_open _ = purpose.Read

-- the purpose of the call's access; a call of another course makes no check
abbrev pub purpose_of : Course → Purpose
purpose_of (course.Open h trunc) = purpose_of_open h
purpose_of course.Mmap = purpose.Map
purpose_of course.Exec = purpose.Exec
purpose_of course.Module = purpose.Module
purpose_of course.Firmware = purpose.Firmware
purpose_of course.Other = purpose.Read

abbrev pub check : Course → Ask
check c = ask.Check (func_of_purpose (purpose_of c)) (mask_of_purpose (purpose_of c))

abbrev pub take : Course → Ask
take c = ask.Take (slot_of (func_of_purpose (purpose_of c)))

-- read the whole content
abbrev pub whole : Ask
whole = ask.Read 0 most_bytes

-- the first step of closing a file
abbrev pub close : How → Ask
close h = if is_writer h then ask.CloseTake else ask.Close

-- ---- the first step

-- one step without an event, with which the call is answered
abbrev pub at_once : Reply → Due
at_once r = due ask.Plain r

-- a call that makes a name is refused with `EBADF`, before all else, if the name exists
abbrev pub if_free : Bool → Due → Due
if_free true s = s
if_free false s = at_once reply.BadFile

-- a call that reads is refused with `EBADF`, before all else, if the file isn't there or isn't
-- readable
abbrev pub if_readable : Option Held → Due → Due
if_readable None s = at_once reply.BadFile
if_readable (Some h) s = if can_read h.how then s else at_once reply.BadFile

-- a call that writes is refused with `EBADF`, before all else, if the file isn't there or isn't
-- writable
abbrev pub if_writable : Option Held → Due → Due
if_writable None s = at_once reply.BadFile
if_writable (Some h) s = if is_writer h.how then s else at_once reply.BadFile

-- a close drops the file only if the name is the file's last
abbrev pub close_held : Option Held → Due
close_held None = at_once reply.BadFile
close_held (Some h) = if h.last then due (close h.how) reply.Done else at_once reply.Done

-- a mapping counts nothing, and only a mapping for execution is checked
abbrev pub map_held : Bool → Hand → Due
map_held exec hand =
    if_free hand.free
    (if_readable hand.held (if exec then due (check course.Mmap) reply.Done
    else at_once reply.Done))

abbrev pub first : Call → Hand → Due
first (call.Open fd inode h trunc) hand = if_free hand.free (due ask.Count reply.Done)
first (call.Read fd from len) hand = if_readable hand.held (due (ask.Read from len) reply.Done)
first (call.Write fd from bytes) hand = if_writable hand.held (due ask.Write reply.Done)
first (call.Ftruncate fd len) hand = if_writable hand.held (due (ask.Trunc len) reply.Done)
first (call.Close fd) hand = close_held hand.held
first (call.Mmap map fd exec) hand = map_held exec hand
first (call.Mread map from len) hand = if_readable hand.held (due (ask.Read from len) reply.Done)
first (call.Munmap map) hand = close_held hand.held
first (call.Exec run inode) hand = if_free hand.free (due ask.Count reply.Done)
first (call.Endexec run) hand = close_held hand.held
first (call.SetAttr inode name value) hand = due ask.SetAttr reply.Done
first (call.SetMeta inode change) hand = due ask.SetMeta reply.Done
first (call.Post sem) hand = at_once reply.Done
first (call.Wait sem) hand = at_once reply.Done
first (call.AddRule rule) hand = at_once (if hand.admin then reply.Done else reply.NotAdmin)
first (call.Module inode) hand = due ask.Count reply.Done
first (call.Firmware inode) hand = due ask.Count reply.Done

-- ---- the steps after the first

-- the reply for an outcome
abbrev pub reply_of : Told → Reply
reply_of (told.Read n digest) = reply.Bytes n digest
reply_of told.NotFound = reply.NotFound
reply_of told.TextBusy = reply.TextBusy
reply_of told.TooBig = reply.TooBig
reply_of told.TooLong = reply.TooLong
reply_of told.NoData = reply.NoData
reply_of told.Invalid = reply.Invalid
reply_of told.EvmName = reply.EvmName
reply_of told.NotAdmin = reply.NotAdmin
reply_of (told.Status status) = reply.Status status
reply_of _ = reply.Done

-- the next step once the file is admitted: an open may truncate it, and an execution and the kernel
-- read it
abbrev pub admitted : Course → Next
admitted (course.Open h true) = goes (ask.Trunc 0) reply.Done
admitted course.Exec = goes whole reply.Done
admitted course.Module = goes whole reply.Done
admitted course.Firmware = goes whole reply.Done
admitted _ = Over reply.Done

-- the next step once the file is refused: the file that the call counted is closed; a mapping
-- counted none
abbrev pub refused : Course → Cause → Next
refused course.Mmap cause = Over (reply.Denied cause)
refused c cause = goes (close (how_of c)) (reply.Denied cause)

-- a grant that isn't admitted gives the cause in its verdict
abbrev pub refused_by : Course → Option Verdict → Next
refused_by c (Some (Deny cause)) = refused c cause
refused_by c _ = admitted c

abbrev pub granted : Course → Grant → Next
granted c g = if g.admitted then admitted c else refused_by c g.verdict

-- the next step after a read: the kernel closes the file that it has read
abbrev pub has_read : Course → Reply → Next
has_read course.Module r = goes ask.Close r
has_read course.Firmware r = goes ask.Close r
has_read _ r = Over r

-- whether a take follows the check: the file is measured, or appraised in a mode other than off
abbrev pub asks_in : Mode → Action → Bool
asks_in mode action = action.measure || (action.appraise && not (is_off mode))

abbrev pub after_count : Course → Reply → Told → Next
after_count c r told.Held = goes (check c) r
after_count c r t = Over (reply_of t)

abbrev pub after_check : Mode → Course → Reply → Action → Next
after_check mode c r action = if asks_in mode action then goes (take c) r else admitted c

abbrev pub after_take : Course → Reply → Told → Next
after_take c r (told.Grant grant) = granted c grant
after_take c r t = goes ask.Chunk r

-- a collection takes pieces up to the last one, and then ends
abbrev pub after_chunk : Ask → Ask → Reply → Told → Next
after_chunk again end r told.More = goes again r
after_chunk again end r t = goes end r

abbrev pub after_finish : Course → Reply → Told → Next
after_finish c r (told.Grant grant) = granted c grant
after_finish c r t = Over r

abbrev pub after_close : Reply → Told → Next
after_close r told.Begun = goes ask.CloseChunk r
after_close r t = Over r

-- the effect of a step on its call, given the step, the reply so far, the outcome, and for a check
-- its action
abbrev pub next_by : Mode → Course → Ask → Reply → Told → Action → Next
next_by mode c ask.Count r t action = after_count c r t
next_by mode c (ask.Check func mask) r t action = after_check mode c r action
next_by mode c (ask.Take slot) r t action = after_take c r t
next_by mode c ask.Chunk r t action = after_chunk ask.Chunk ask.Finish r t
next_by mode c ask.Finish r t action = after_finish c r t
next_by mode c (ask.Read from len) r t action = has_read c (reply_of t)
next_by mode c ask.Write r t action = Over (reply_of t)
next_by mode c (ask.Trunc len) r t action = Over (reply_of t)
next_by mode c ask.SetAttr r t action = Over (reply_of t)
next_by mode c ask.SetMeta r t action = Over (reply_of t)
next_by mode c ask.Close r t action = Over r
next_by mode c ask.CloseTake r t action = after_close r t
next_by mode c ask.CloseChunk r t action = after_chunk ask.CloseChunk ask.CloseFinish r t
next_by mode c ask.CloseFinish r t action = Over r
next_by mode c ask.Plain r t action = Over r

abbrev pub next : Mode → Call → Due → Told → Action → Next
next mode c s t action = next_by mode (course_of c) s.ask s.reply t action

-- ---- the same steps, through a plan

abbrev pub plan_of : Mode → Call → Due → Plan
plan_of mode c s = record { course = course_of c; mode = mode; due = s }

abbrev pub moved_by : Plan → Next → Plan × Option Reply
moved_by p (On s) = (record p { due = s }, None)
moved_by p (Over r) = (p, Some r)

-- only a check has an action
abbrev pub given : Option Action → Action
given action = unwrap_or action no_action

abbrev pub told_of : Plan → Told → Option Action → Plan × Option Reply
told_of p t action = moved_by p (next_by p.mode p.course p.due.ask p.due.reply t (given action))
