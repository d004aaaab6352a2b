-- The digests in replies are hashes, whose bytes can be read back from a report.
use Rattle.std.proofs.Common.{◌≡◌, ℕ, ◌+◌, zero, suc, ◌<◌, Bool, true, false, List, [], ◌∷◌, length, Option, Some, None, if◌then◌else◌, sym, subst, arith}
use Rattle.std.specs.Prelude.{slice_index, unwrap_or, Result, Ok, Err, ◌==◌, ◌&&◌, ◌||◌, not, nat_le, nat_lt, is_none}
use Rattle.std.specs.Str.{bytes_eq}
use Rattle.std.specs.Int.{to_be_bytes, w32}
use Rattle.std.specs.List.{AllByRecursion}
use Rattle.hex.specs.Hex.{IsBytes}
use Rattle.sha2.specs.Sha256.{digest_bytes, final_hash, initial_hash_256, sha256}
use Rattle.call_steps.proofs.about_hashes.HashLemmas.{length-hash}
use Rattle.call_steps.specs.hashes.Digest.{HasDigestSize}
use Rattle.call_steps.specs.hashes.declared.algo.Algo.TheVariants.{Sha256}
use Rattle.ima_templates.specs.declared.entry.Placed.{Placed}
use Rattle.inode_meta.specs.declared.appraisal.EvmStatus.{EvmStatus}
use Rattle.inode_meta.specs.declared.appraisal.Mode.{Mode}
use Rattle.inode_meta.specs.declared.step.Who.{Who}
use Rattle.inode_events.specs.policy.declared.access.Action.{Action}
use Rattle.inode_events.specs.pages.Content.{bytes_at, is_last_piece, most_bytes}
use Rattle.inode_events.specs.Files.{can_read, creates, execs, is_exec, is_writer, is_writing, readers, writers}
use Rattle.inode_events.specs.Inode.{Inode}
use Rattle.evm_verify.specs.Changes.{may_change, may_set_meta}
use Rattle.evm_verify.specs.Input.{evm_name}
use Rattle.inode_events.specs.Integrity.{Collection, Digests, attributes, collecting, ima_name, in_force}
use Rattle.inode_events.specs.Legal.{EachFollows, Follows}
use Rattle.inode_events.specs.Marks.{is_label_due, must_measure}
use Rattle.inode_events.specs.Says.{chunk_told, close_take_told, finish_told, is_no_label, is_too_long, place_of, placed_in, says, set_attr_told, set_meta_told, status_told, take_told, unless_collecting, write_told}
use Rattle.inode_events.specs.State.{content, metadata, new, present}
use Rattle.inode_events.specs.declared.deed.Deed.{Deed}
use Rattle.inode_events.specs.declared.deed.Deed.TheVariants as deed
use Rattle.inode_events.specs.declared.told.Event.{Event}
use Rattle.inode_events.specs.declared.told.Grant.{Grant}
use Rattle.inode_events.specs.declared.told.Told.{Told}
use Rattle.inode_events.specs.declared.told.Told.TheVariants as told
use Rattle.inode_events.specs.labels.declared.verdict.Verdict.{Verdict}
use Rattle.inode_events.specs.labels.declared.verdict.Verdict.TheVariants.{Deny, Pass}
use Rattle.ima_templates.specs.xattrs.Attrs.{value}
use Rattle.call_steps.specs.CallState.{CallState, Progress, Step, begun, moved, progress_of}
use Rattle.call_steps.specs.CallState.{Nothing, Does, Checks, Signals, Appends}
use Rattle.call_steps.specs.Steps.{admitted, after_chunk, after_close, after_count, after_finish, after_take, asks_in, at_once, close_held, course_of, first, goes, granted, has_read, if_free, if_readable, if_writable, next, next_by, refused_by, reply_of, take}
use Rattle.call_steps.specs.declared.ask.Ask.{Ask}
use Rattle.call_steps.specs.declared.ask.Ask.TheVariants as ask
use Rattle.call_steps.specs.declared.call.Call.{Call}
use Rattle.call_steps.specs.declared.call.Call.TheVariants as call
use Rattle.call_steps.specs.declared.course.Course.{Course}
use Rattle.call_steps.specs.declared.course.Course.TheVariants as course
use Rattle.call_steps.specs.declared.due.Due.{Due}
use Rattle.call_steps.specs.declared.due.Next.{Next}
use Rattle.call_steps.specs.declared.due.Next.TheVariants.{On, Over}
use Rattle.call_steps.specs.declared.held.Hand.{Hand}
use Rattle.call_steps.specs.declared.held.Held.{Held}
use Rattle.call_steps.specs.declared.reply.Reply.{Reply}
use Rattle.call_steps.specs.declared.reply.Reply.TheVariants as reply
use Rattle.run_model.specs.History.{Answer, Position, call_at, event_in, own, position, position_with, resume_in, step_at, who_at}
use Rattle.run_model.specs.Scene.{Program, Scene, mode_of}
use Rattle.run_model.specs.Served.{AreSuited, Run, Suits, rules_known}
use Rattle.report_text.specs.Ranges.{IsReply}
use Rattle.report_laws.proofs.Made.{each_append, each_left, each_right}
use Rattle.report_laws.proofs.Own.{get_below, same_number}

-- ---- bytes

abbrev AreBytes : List ℕ → Type 0
AreBytes bytes = AllByRecursion (λ (b : ℕ). b < 256) bytes

are_bytes : (bytes : List ℕ) → AreBytes bytes → IsBytes bytes
are_bytes [] h i = omega arith
are_bytes (b ∷ bs) h zero = h.0
are_bytes (b ∷ bs) h (suc i) = are_bytes bs h.1 i

-- the bytes of a word
word_bytes : (w : ℕ) → AreBytes (to_be_bytes w32 w)
word_bytes w = (omega arith, (omega arith, (omega arith, (omega arith, tt))))

-- the bytes of the words of a hash
hash_bytes : (h : List ℕ) (n : ℕ) → AreBytes (digest_bytes h n)
unfolding digest_bytes
hash_bytes h zero = tt
hash_bytes h (suc n) =
    each_append (λ (b : ℕ). b < 256) (digest_bytes h n) (to_be_bytes w32 (slice_index h n))
    (hash_bytes h n) (word_bytes (slice_index h n))

-- SHA-256 gives bytes
sha256_bytes : (m : List ℕ) → IsBytes (sha256 m)
unfolding sha256
sha256_bytes m = are_bytes _ (hash_bytes (final_hash initial_hash_256 m) 8)

-- ---- outcomes

-- the digest of a read is one of bytes
abbrev pub IsToldReply : Told → Type 0
IsToldReply (told.Read n digest) = HasDigestSize digest × IsBytes digest.bytes
IsToldReply _ = Unit {0}

abbrev IfToldReply : Option Told → Type 0
IfToldReply None = Unit {0}
IfToldReply (Some t) = IsToldReply t

either_told : (b : Bool) (t u : Told) → IsToldReply t → IsToldReply u
    → IsToldReply (if b then t else u)
either_told true t u h k = h
either_told false t u h k = k

status_reply : (r : Result (Unit {0}) EvmStatus) → IsToldReply (status_told r)
status_reply (Ok x) = tt
status_reply (Err s) = tt

unless_reply : (o : Option Collection) (t : Told) → IsToldReply t
    → IfToldReply (unless_collecting o t)
unless_reply None t h = h
unless_reply (Some c) t h = tt

take_reply : (i : Inode) (file : ℕ) (placed : Placed) (o : Option Digests) (p : List Event)
    → IsToldReply (take_told i file placed o p)
take_reply i file placed None p = tt
take_reply i file placed (Some x) p = tt

chunk_reply : (content : List ℕ) (o : Option Collection) → IfToldReply (chunk_told content o)
chunk_reply content None = tt
chunk_reply content (Some c) =
    either_told (is_last_piece content c.pieces) told.Last told.More tt tt

finish_reply : (i : Inode) (file : ℕ) (placed : Placed) (o : Option Collection) (p : List Event)
    → IfToldReply (finish_told i file placed o p)
finish_reply i file placed None p = tt
finish_reply i file placed (Some c) p = tt

write_reply : (limit : ℕ) → IsToldReply (write_told limit)
write_reply limit = either_told (nat_le limit most_bytes) told.Done told.TooBig tt tt

-- the outcomes of a count, by its two tests
count_by : (a b : Bool)
    → IsToldReply (if a then told.NotFound else if b then told.TextBusy else told.Held)
count_by true b = tt
count_by false true = tt
count_by false false = tt

-- the outcomes of a check, by its three tests
check_by : (a b c : Bool) (place : ℕ) → IsToldReply (if a
    then (if b then told.ToMToU place else told.Quiet)
    else (if c then told.OpenWriters place else told.Quiet))
check_by true true c place = tt
check_by true false c place = tt
check_by false b true place = tt
check_by false b false place = tt

-- the outcomes of a change of an attribute, by its six refusals
set_by : (a b c d e f : Bool) (t : Told) → IsToldReply t
    → IsToldReply (if a then told.NotFound else if b then told.EvmName
    else if c then told.NotAdmin else if d then told.TooLong else if e then told.Invalid
    else if f then told.NoData else t)
set_by true b c d e f t h = tt
set_by false true c d e f t h = tt
set_by false false true d e f t h = tt
set_by false false false true e f t h = tt
set_by false false false false true f t h = tt
set_by false false false false false true t h = tt
set_by false false false false false false t h = h

-- each outcome that a journal determines
says_reply : (i : Inode) (p : List Event) (placed : Placed) (d : Deed)
    → IfToldReply (says i p placed d)
says_reply i p placed deed.Birth = tt
says_reply i p placed (deed.Count how) =
    count_by (not (present p) && not (creates how))
    ((is_writer how && nat_lt 0 (execs p)) || (is_exec how && nat_lt 0 (writers p)))
says_reply i p placed (deed.Check file func action rules) =
    check_by (is_writing file p) (nat_lt 0 (readers p) && must_measure p)
    (action.measure && nat_lt 0 (writers p)) (place_of placed)
says_reply i p placed (deed.Take file) =
    unless_reply (collecting i p) (take_told i file placed (in_force i p) p)
    (take_reply i file placed (in_force i p) p)
says_reply i p placed (deed.Chunk file) = chunk_reply (content p) (collecting i p)
says_reply i p placed (deed.Finish file) = finish_reply i file placed (collecting i p) p
says_reply i p placed (deed.Read file from len) =
    (length-hash Sha256 (bytes_at (content p) from len), sha256_bytes (bytes_at (content p) from len))
says_reply i p placed (deed.Write file from bytes) = write_reply (from + length bytes)
says_reply i p placed (deed.Trunc file len) = write_reply len
says_reply i p placed (deed.SetAttr name bytes admin) =
    let change = may_change i.settings.evm name (attributes i p) (metadata p) (new p) in
    unless_reply (collecting i p) (set_attr_told i name bytes admin p)
    (set_by (not (present p)) (bytes_eq name evm_name) (bytes_eq name ima_name && not admin)
    (is_too_long bytes) (bytes_eq name ima_name && is_no_label bytes)
    (is_none bytes && is_none (value name (attributes i p))) (status_told change)
    (status_reply change))
says_reply i p placed (deed.SetMeta change) =
    let may = may_set_meta i.settings.evm (attributes i p) (metadata p) in
    unless_reply (collecting i p) (set_meta_told i p)
    (either_told (not (present p)) told.NotFound (status_told may) tt (status_reply may))
says_reply i p placed (deed.Close file) = tt
says_reply i p placed (deed.CloseTake file) =
    unless_reply (collecting i p) (close_take_told (is_label_due i p) (writers p))
    (either_told ((writers p == 1) && is_label_due i p) told.Begun told.Dropped tt tt)
says_reply i p placed (deed.CloseChunk file) = chunk_reply (content p) (collecting i p)
says_reply i p placed (deed.CloseFinish file) =
    either_told (writers p == 1) told.LabelledDropped told.Dropped tt tt
says_reply i p placed (deed.Post sem) = tt
says_reply i p placed (deed.Wait sem) = tt

said_reply : (i : Inode) (p : List Event) (placed : Placed) (d : Deed) (t : Told)
    → says i p placed d ≡ Some t → IsToldReply t
said_reply i p placed d t e = subst (λ (o : Option Told). IfToldReply o) e (says_reply i p placed d)

follows_reply : (i : Inode) (p : List Event) (who : Who) (d : Deed) (t : Told)
    → Follows i p who d t → IsToldReply t
follows_reply i p who deed.Birth t h = subst (λ (x : Told). IsToldReply x) (sym h.2) tt
follows_reply i p who (deed.Count how) t h = said_reply i p (placed_in t) (deed.Count how) t h.2
follows_reply i p who (deed.Check f fn a r) t h =
    said_reply i p (placed_in t) (deed.Check f fn a r) t h.2
follows_reply i p who (deed.Take f) t h = said_reply i p (placed_in t) (deed.Take f) t h.2
follows_reply i p who (deed.Chunk f) t h = said_reply i p (placed_in t) (deed.Chunk f) t h.2
follows_reply i p who (deed.Finish f) t h = said_reply i p (placed_in t) (deed.Finish f) t h.2
follows_reply i p who (deed.Read f o n) t h = said_reply i p (placed_in t) (deed.Read f o n) t h.2
follows_reply i p who (deed.Write f o b) t h =
    said_reply i p (placed_in t) (deed.Write f o b) t h.2
follows_reply i p who (deed.Trunc f n) t h = said_reply i p (placed_in t) (deed.Trunc f n) t h.2
follows_reply i p who (deed.SetAttr n b a) t h =
    said_reply i p (placed_in t) (deed.SetAttr n b a) t h.2
follows_reply i p who (deed.SetMeta c) t h = said_reply i p (placed_in t) (deed.SetMeta c) t h.2
follows_reply i p who (deed.Close f) t h = said_reply i p (placed_in t) (deed.Close f) t h.2
follows_reply i p who (deed.CloseTake f) t h =
    said_reply i p (placed_in t) (deed.CloseTake f) t h.2
follows_reply i p who (deed.CloseChunk f) t h =
    said_reply i p (placed_in t) (deed.CloseChunk f) t h.2
follows_reply i p who (deed.CloseFinish f) t h =
    said_reply i p (placed_in t) (deed.CloseFinish f) t h.2
follows_reply i p who (deed.Post s) t h = said_reply i p (placed_in t) (deed.Post s) t h.2
follows_reply i p who (deed.Wait s) t h = said_reply i p (placed_in t) (deed.Wait s) t h.2

-- the outcomes of a legal journal
pub told_replies : (i : Inode) (p : List Event) → EachFollows i p
    → AllByRecursion (λ (e : Event). IsToldReply e.told) p
told_replies i [] h = tt
told_replies i (e ∷ p) h =
    (follows_reply i p e.who e.deed e.told h.0, told_replies i p h.1)

-- ---- the replies of a call

free_reply : (b : Bool) (s : Due) → IsReply s.reply → IsReply (if_free b s).reply
free_reply true s h = h
free_reply false s h = tt

either_due : (b : Bool) (s u : Due) → IsReply s.reply → IsReply u.reply
    → IsReply (if b then s else u).reply
either_due true s u h k = h
either_due false s u h k = k

readable_reply : (o : Option Held) (s : Due) → IsReply s.reply → IsReply (if_readable o s).reply
readable_reply None s h = tt
readable_reply (Some x) s h = either_due (can_read x.how) s (at_once reply.BadFile) h tt

writable_reply : (o : Option Held) (s : Due) → IsReply s.reply → IsReply (if_writable o s).reply
writable_reply None s h = tt
writable_reply (Some x) s h = either_due (is_writer x.how) s (at_once reply.BadFile) h tt

close_reply : (o : Option Held) → IsReply (close_held o).reply
close_reply None = tt
close_reply (Some x) = either_due x.last _ (at_once reply.Done) tt tt

admin_reply : (b : Bool) → IsReply (if b then reply.Done else reply.NotAdmin)
admin_reply true = tt
admin_reply false = tt

-- the reply that a call begins with
first_reply : (c : Call) (hand : Hand) → IsReply (first c hand).reply
first_reply (call.Open fd inode h trunc) hand = free_reply hand.free _ tt
first_reply (call.Read fd from len) hand = readable_reply hand.held _ tt
first_reply (call.Write fd from bytes) hand = writable_reply hand.held _ tt
first_reply (call.Ftruncate fd len) hand = writable_reply hand.held _ tt
first_reply (call.Close fd) hand = close_reply hand.held
first_reply (call.Mmap map fd exec) hand =
    free_reply hand.free _ (readable_reply hand.held _ (either_due exec _ _ tt tt))
first_reply (call.Mread map from len) hand = readable_reply hand.held _ tt
first_reply (call.Munmap map) hand = close_reply hand.held
first_reply (call.Exec run inode) hand = free_reply hand.free _ tt
first_reply (call.Endexec run) hand = close_reply hand.held
first_reply (call.SetAttr inode name value) hand = tt
first_reply (call.SetMeta inode change) hand = tt
first_reply (call.Post sem) hand = tt
first_reply (call.Wait sem) hand = tt
first_reply (call.AddRule rule) hand = admin_reply hand.admin
first_reply (call.Module inode) hand = tt
first_reply (call.Firmware inode) hand = tt

abbrev IsNextReply : Next → Type 0
IsNextReply (On s) = IsReply s.reply
IsNextReply (Over r) = IsReply r

either_next : (b : Bool) (n m : Next) → IsNextReply n → IsNextReply m
    → IsNextReply (if b then n else m)
either_next true n m h k = h
either_next false n m h k = k

outcome_reply : (t : Told) → IsToldReply t → IsReply (reply_of t)
outcome_reply (told.Read n digest) h = h
outcome_reply t h = tt

admitted_reply : (c : Course) → IsNextReply (admitted c)
admitted_reply (course.Open h true) = tt
admitted_reply (course.Open h false) = tt
admitted_reply course.Mmap = tt
admitted_reply course.Exec = tt
admitted_reply course.Module = tt
admitted_reply course.Firmware = tt
admitted_reply course.Other = tt

refused_reply : (c : Course) (o : Option Verdict) → IsNextReply (refused_by c o)
refused_reply course.Mmap (Some (Deny cause)) = tt
refused_reply c (Some (Deny cause)) = tt
refused_reply c (Some Pass) = admitted_reply c
refused_reply c None = admitted_reply c

granted_reply : (c : Course) (g : Grant) → IsNextReply (granted c g)
granted_reply c g = either_next g.admitted (admitted c) (refused_by c g.verdict)
    (admitted_reply c) (refused_reply c g.verdict)

count_reply : (c : Course) (r : Reply) (t : Told) → IsReply r → IsToldReply t
    → IsNextReply (after_count c r t)
count_reply c r told.Held h k = h
count_reply c r t h k = outcome_reply t k

take_next : (c : Course) (r : Reply) (t : Told) → IsReply r → IsNextReply (after_take c r t)
take_next c r (told.Grant g) h = granted_reply c g
take_next c r t h = h

chunk_next : (again end : Ask) (r : Reply) (t : Told) → IsReply r
    → IsNextReply (after_chunk again end r t)
chunk_next again end r told.More h = h
chunk_next again end r t h = h

finish_next : (c : Course) (r : Reply) (t : Told) → IsReply r → IsNextReply (after_finish c r t)
finish_next c r (told.Grant g) h = granted_reply c g
finish_next c r t h = h

close_next : (r : Reply) (t : Told) → IsReply r → IsNextReply (after_close r t)
close_next r told.Begun h = h
close_next r t h = h

read_next : (c : Course) (r : Reply) → IsReply r → IsNextReply (has_read c r)
read_next course.Module r h = h
read_next course.Firmware r h = h
read_next c r h = h

next_reply : (mode : Mode) (c : Course) (k : Ask) (r : Reply) (t : Told) (action : Action)
    → IsReply r → IsToldReply t → IsNextReply (next_by mode c k r t action)
next_reply mode c ask.Count r t action h k = count_reply c r t h k
next_reply mode c (ask.Check func mask) r t action h k =
    either_next (asks_in mode action) (goes (take c) r) (admitted c) h (admitted_reply c)
next_reply mode c (ask.Take slot) r t action h k = take_next c r t h
next_reply mode c ask.Chunk r t action h k = chunk_next ask.Chunk ask.Finish r t h
next_reply mode c ask.Finish r t action h k = finish_next c r t h
next_reply mode c (ask.Read from len) r t action h k =
    read_next c (reply_of t) (outcome_reply t k)
next_reply mode c ask.Write r t action h k = outcome_reply t k
next_reply mode c (ask.Trunc len) r t action h k = outcome_reply t k
next_reply mode c ask.SetAttr r t action h k = outcome_reply t k
next_reply mode c ask.SetMeta r t action h k = outcome_reply t k
next_reply mode c ask.Close r t action h k = h
next_reply mode c ask.CloseTake r t action h k = close_next r t h
next_reply mode c ask.CloseChunk r t action h k =
    chunk_next ask.CloseChunk ask.CloseFinish r t h
next_reply mode c ask.CloseFinish r t action h k = h
next_reply mode c ask.Plain r t action h k = h

-- ---- the replies of a task

abbrev IfProgress : Option Progress → Type 0
IfProgress None = Unit {0}
IfProgress (Some g) = IsReply g.due.reply

-- the reply that is due and those that were given
record AreReplies (t : Position) : Type 0 where
  due : IfProgress t.call_state.progress
  given : AllByRecursion IsReply t.replies

progress_reply : (admin : Bool) (c : Call) (m : CallState) → IfProgress m.progress
    → IsReply (progress_of admin c m).due.reply
progress_reply admin c m h = at m.progress h where
  at : (o : Option Progress) → IfProgress o
      → IsReply (unwrap_or o (begun admin m.handles c)).due.reply
  at None k = first_reply c _
  at (Some g) k = k

moved_replies : (c : Call) (t : Position) (g : Progress) (place : ℕ) (n : Next) → IsNextReply n
    → AllByRecursion IsReply t.replies
    → AreReplies (position_with t (moved c t.call_state g place n))
moved_replies c t g place (On s) h given = record { due = h; given = given }
moved_replies c t g place (Over r) h given =
    record { due = tt; given = each_append IsReply t.replies (r ∷ []) given (h, tt) }

resume_replies : (mode : Mode) (p : Program) (o : Option Call) (t : Position) (a : Answer)
    → AreReplies t → IsToldReply a.told → AreReplies (resume_in mode p o t a)
resume_replies mode p None t a h k = h
resume_replies mode p (Some c) t a h k =
    let g = progress_of p.cred.admin c t.call_state in
    moved_replies c t g a.place (next mode c g.due a.told a.action)
    (next_reply mode (course_of c) g.due.ask g.due.reply a.told a.action
    (progress_reply p.cred.admin c t.call_state h.due) k) h.given

position_replies : (mode : Mode) (p : Program) (h : List Answer)
    → AllByRecursion (λ (a : Answer). IsToldReply a.told) h → AreReplies (position mode p h)
position_replies mode p [] k = record { due = tt; given = tt }
position_replies mode p (a ∷ h) k =
    resume_replies mode p (call_at p (position mode p h).call_state) (position mode p h) a
    (position_replies mode p h k.1) k.0

-- ---- the answers of a history

-- the outcome of a step's answer is that of its event
answer_reply : (scene : Scene) (run : Run) (p : Program) (known : ℕ) (who : Who)
    (o : Option Step) (a : Answer) → Suits scene run p known o a
    → ((i : ℕ) → i < length scene.script_files
    → AllByRecursion (λ (y : ℕ × Event). IsToldReply y.1.told) (event_in i who o a))
    → IsToldReply a.told
answer_reply scene run p known who None a h events = absurd h
answer_reply scene run p known who (Some Nothing) a h events =
    subst (λ (x : Answer). IsToldReply x.told) (sym h) tt
answer_reply scene run p known who (Some (Does inode d)) a h events =
    (rw (same_number inode) at (events inode h.0)).0
answer_reply scene run p known who (Some (Checks inode file func mask)) a h events =
    (rw (same_number inode) at
    (events inode (get_below scene.script_files inode h.script_file h.at))).0
answer_reply scene run p known who (Some (Signals d)) a h events =
    subst (λ (x : Answer). IsToldReply x.told) (sym h) tt
answer_reply scene run p known who (Some (Appends rule)) a h events =
    subst (λ (x : Answer). IsToldReply x.told) (sym h) tt

answers_replies : (scene : Scene) (run : Run) (n : ℕ) (p : Program) (h : List Answer)
    → AreSuited scene run p h
    → ((i : ℕ) → i < length scene.script_files
    → AllByRecursion (λ (y : ℕ × Event). IsToldReply y.1.told) (own (mode_of scene) n p i h))
    → AllByRecursion (λ (a : Answer). IsToldReply a.told) h
answers_replies scene run n p [] suited events = tt
answers_replies scene run n p (a ∷ h) suited events =
    let m = (position (mode_of scene) p h).call_state in
    let P : ℕ × Event → Type 0 = λ y. IsToldReply y.1.told in (
      answer_reply scene run p (rules_known scene p h) (who_at n p m) (step_at p m) a suited.0
          (λ i below. each_right P (own (mode_of scene) n p i h)
          (event_in i (who_at n p m) (step_at p m) a) (events i below)),
      answers_replies scene run n p h suited.1
          (λ i below. each_left P (own (mode_of scene) n p i h)
          (event_in i (who_at n p m) (step_at p m) a) (events i below)),
    )

-- the replies of a served task
pub task_replies : (scene : Scene) (run : Run) (n : ℕ) (p : Program) (h : List Answer)
    → AreSuited scene run p h
    → ((i : ℕ) → i < length scene.script_files
    → AllByRecursion (λ (y : ℕ × Event). IsToldReply y.1.told) (own (mode_of scene) n p i h))
    → AllByRecursion IsReply (position (mode_of scene) p h).replies
task_replies scene run n p h suited events =
    (position_replies (mode_of scene) p h (answers_replies scene run n p h suited events)).given
