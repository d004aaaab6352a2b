-- The table of steps, row by row: the step that is due next, and what the task has hashed and
-- checked by then.
use Rattle.std.proofs.Common.{◌≡◌, Bool, true, false, cond, Option, Some, None, refl}
use Rattle.inode_meta.specs.declared.appraisal.Mode.{Mode}
use Rattle.inode_meta.specs.declared.appraisal.Slot.{Slot}
use Rattle.inode_events.specs.labels.declared.verdict.Cause.{Cause}
use Rattle.inode_events.specs.labels.declared.verdict.Verdict.{Verdict}
use Rattle.inode_events.specs.labels.declared.verdict.Verdict.TheVariants.{Deny}
use Rattle.policy_rules.specs.Accesses.{func_of_purpose, slot_of}
use Rattle.policy_rules.specs.declared.access.Action.{Action}
use Rattle.inode_events.specs.Files.{can_read, is_writer}
use Rattle.inode_events.specs.declared.deed.How.{How}
use Rattle.inode_events.specs.declared.told.Grant.{Grant}
use Rattle.inode_events.specs.declared.told.Told.{Told}
use Rattle.inode_events.specs.declared.told.Told.TheVariants as told
use Rattle.call_steps.specs.Steps.{admitted, after_check, asks_in, at_once, check, close, close_held, course_of, due, first, granted, has_read, how_of, if_free, if_readable, if_writable, next_by, purpose_of, refused, refused_by, reply_of}
use Rattle.call_steps.specs.declared.ask.Ask.{Ask}
use Rattle.call_steps.specs.declared.ask.Ask.TheVariants as ask
use Rattle.call_steps.specs.declared.call.Call.{Call}
use Rattle.call_steps.specs.declared.call.Call.TheVariants as call
use Rattle.call_steps.specs.declared.course.Course.{Course}
use Rattle.call_steps.specs.declared.course.Course.TheVariants as course
use Rattle.call_steps.specs.declared.due.Due.{Due}
use Rattle.call_steps.specs.declared.due.Next.{Next}
use Rattle.call_steps.specs.declared.due.Next.TheVariants.{On, Over}
use Rattle.call_steps.specs.declared.held.Hand.{Hand}
use Rattle.call_steps.specs.declared.held.Held.{Held}
use Rattle.call_steps.specs.declared.reply.Reply.{Reply}
use Rattle.call_steps.specs.declared.reply.Reply.TheVariants as reply

-- ---- properties of an ask

-- the ask isn't a take, and doesn't belong to a collection
abbrev pub IsIdle : Ask → Type 0
IsIdle (ask.Take slot) = ⊥
IsIdle ask.Chunk = ⊥
IsIdle ask.Finish = ⊥
IsIdle ask.CloseChunk = ⊥
IsIdle ask.CloseFinish = ⊥
IsIdle _ = Unit {0}

-- if the ask is a check, it is of the function of its call
abbrev pub IsFor : Course → Ask → Type 0
IsFor c (ask.Check func mask) = func ≡ func_of_purpose (purpose_of c)
IsFor c _ = Unit {0}

abbrev pub IsCheck : Ask → Type 0
IsCheck (ask.Check func mask) = Unit {0}
IsCheck _ = ⊥

-- if the ask is a take, it comes after a check, and takes the slot of the call's function
abbrev pub ComesAfter : Course → Ask → Ask → Type 0
ComesAfter c k (ask.Take slot) = IsCheck k × (slot ≡ slot_of (func_of_purpose (purpose_of c)))
ComesAfter c k _ = Unit {0}

-- what the task has hashed before the ask: P while a collection goes on, and Q when it ends
abbrev pub HashesAsk : Type 0 → Type 0 → Ask → Type 0
HashesAsk P Q ask.Chunk = P
HashesAsk P Q ask.CloseChunk = P
HashesAsk P Q ask.Finish = Q
HashesAsk P Q ask.CloseFinish = Q
HashesAsk P Q _ = Unit {0}

-- what the task has hashed after the ask: P while a collection goes on, and Q when it ends
abbrev pub HashesAfterAsk : Type 0 → Type 0 → Ask → Told → Type 0
HashesAfterAsk P Q (ask.Take slot) (told.Grant grant) = Unit {0}
HashesAfterAsk P Q (ask.Take slot) t = P
HashesAfterAsk P Q ask.Chunk told.More = P
HashesAfterAsk P Q ask.Chunk t = Q
HashesAfterAsk P Q ask.CloseTake told.Begun = P
HashesAfterAsk P Q ask.CloseTake t = Unit {0}
HashesAfterAsk P Q ask.CloseChunk told.More = P
HashesAfterAsk P Q ask.CloseChunk t = Q
HashesAfterAsk P Q _ t = Unit {0}

-- with nothing to say for P and Q, `HashesAfterAsk` holds
pub nothing_after : (k : Ask) (t : Told) → HashesAfterAsk (Unit {0}) (Unit {0}) k t
nothing_after (ask.Take slot) (told.Grant grant) = tt
nothing_after (ask.Take slot) t = tt
nothing_after ask.Chunk told.More = tt
nothing_after ask.Chunk t = tt
nothing_after ask.CloseTake told.Begun = tt
nothing_after ask.CloseTake t = tt
nothing_after ask.CloseChunk told.More = tt
nothing_after ask.CloseChunk t = tt
nothing_after k t = tt

-- ---- the first ask of a call

abbrev pub Begins : Course → Ask → Type 0
Begins c k = IsIdle k × IsFor c k

free : (c : Course) (b : Bool) (d : Due) → Begins c d.ask → Begins c (if_free b d).ask
free c true d x = x
free c false d x = (tt, tt)

choose : (c : Course) (b : Bool) (d e : Due) → Begins c d.ask → Begins c e.ask
    → Begins c (cond b d e).ask
choose c true d e x y = x
choose c false d e x y = y

readable : (c : Course) (o : Option Held) (d : Due) → Begins c d.ask
    → Begins c (if_readable o d).ask
readable c None d x = (tt, tt)
readable c (Some h) d x = choose c (can_read h.how) d (at_once reply.BadFile) x (tt, tt)

writable : (c : Course) (o : Option Held) (d : Due) → Begins c d.ask
    → Begins c (if_writable o d).ask
writable c None d x = (tt, tt)
writable c (Some h) d x = choose c (is_writer h.how) d (at_once reply.BadFile) x (tt, tt)

closes : (c : Course) (h : How) → Begins c (close h)
closes c h = at (is_writer h) where
  at : (b : Bool) → Begins c (cond b ask.CloseTake ask.Close)
  at true = (tt, tt)
  at false = (tt, tt)

close_begins : (c : Course) (o : Option Held) → Begins c (close_held o).ask
close_begins c None = (tt, tt)
close_begins c (Some h) =
    choose c h.last (due (close h.how) reply.Done) (at_once reply.Done) (closes c h.how) (tt, tt)

pub first_begins : (c : Call) (hand : Hand) → Begins (course_of c) (first c hand).ask
first_begins (call.Open fd inode h trunc) hand =
    free (course.Open h trunc) hand.free (due ask.Count reply.Done) (tt, tt)
first_begins (call.Read fd from len) hand =
    readable course.Other hand.held (due (ask.Read from len) reply.Done) (tt, tt)
first_begins (call.Write fd from bytes) hand =
    writable course.Other hand.held (due ask.Write reply.Done) (tt, tt)
first_begins (call.Ftruncate fd len) hand =
    writable course.Other hand.held (due (ask.Trunc len) reply.Done) (tt, tt)
first_begins (call.Close fd) hand = close_begins course.Other hand.held
first_begins (call.Mmap map fd exec) hand =
    free course.Mmap hand.free
    (if_readable hand.held (cond exec (due (check course.Mmap) reply.Done) (at_once reply.Done)))
    (readable course.Mmap hand.held
    (cond exec (due (check course.Mmap) reply.Done) (at_once reply.Done))
    (choose course.Mmap exec (due (check course.Mmap) reply.Done) (at_once reply.Done) (tt, refl)
    (tt, tt)))
first_begins (call.Mread map from len) hand =
    readable course.Other hand.held (due (ask.Read from len) reply.Done) (tt, tt)
first_begins (call.Munmap map) hand = close_begins course.Other hand.held
first_begins (call.Exec run inode) hand =
    free course.Exec hand.free (due ask.Count reply.Done) (tt, tt)
first_begins (call.Endexec run) hand = close_begins course.Other hand.held
first_begins c hand = (tt, tt)

-- ---- the asks after the first

-- the next ask, after ask k, has all these properties
pub record Comes (c : Course) (k a : Ask) (P Q : Type 0)
    : Type 0 where
  pub check : IsFor c a
  pub take : ComesAfter c k a
  pub hashes : HashesAsk P Q a

module _ (c : Course) (k : Ask) (P Q : Type 0) where
  abbrev pub Follows : Next → Type 0
  Follows (On d) = Comes c k d.ask P Q
  Follows (Over r) = Unit {0}

  is_admitted : (x : Course) → Follows (admitted x)
  is_admitted (course.Open h true) = record { check = tt; take = tt; hashes = tt }
  is_admitted (course.Open h false) = tt
  is_admitted course.Exec = record { check = tt; take = tt; hashes = tt }
  is_admitted course.Module = record { check = tt; take = tt; hashes = tt }
  is_admitted course.Firmware = record { check = tt; take = tt; hashes = tt }
  is_admitted course.Mmap = tt
  is_admitted course.Other = tt

  is_closing : (h : How) → Comes c k (close h) P Q
  is_closing h = at (is_writer h) where
    at : (b : Bool) → Comes c k (cond b ask.CloseTake ask.Close) P Q
    at true = record { check = tt; take = tt; hashes = tt }
    at false = record { check = tt; take = tt; hashes = tt }

  is_refused : (x : Course) (cause : Cause) → Follows (refused x cause)
  is_refused course.Mmap cause = tt
  is_refused (course.Open h trunc) cause = is_closing h
  is_refused course.Exec cause = is_closing (how_of course.Exec)
  is_refused course.Module cause = is_closing (how_of course.Module)
  is_refused course.Firmware cause = is_closing (how_of course.Firmware)
  is_refused course.Other cause = is_closing (how_of course.Other)

  is_refused_by : (x : Course) (v : Option Verdict) → Follows (refused_by x v)
  is_refused_by x (Some (Deny cause)) = is_refused x cause
  is_refused_by x v = is_admitted x

  is_granted : (x : Course) (grant : Grant) → Follows (granted x grant)
  is_granted x grant = at grant.admitted where
    at : (b : Bool) → Follows (cond b (admitted x) (refused_by x grant.verdict))
    at true = is_admitted x
    at false = is_refused_by x grant.verdict

  is_read : (x : Course) (r : Reply) → Follows (has_read x r)
  is_read course.Module r = record { check = tt; take = tt; hashes = tt }
  is_read course.Firmware r = record { check = tt; take = tt; hashes = tt }
  is_read x r = tt

count_row : (mode : Mode) (c : Course) (r : Reply) (t : Told) (action : Action) (P Q : Type 0)
    → Follows c ask.Count P Q (next_by mode c ask.Count r t action)
count_row mode c r told.Held action P Q =
    record { check = refl; take = tt; hashes = tt }
count_row mode c r t action P Q = tt

check_row : (mode : Mode) (c : Course) (k : Ask) (r : Reply) (action : Action) (P Q : Type 0)
    → IsCheck k
    → Follows c k P Q (after_check mode c r action)
check_row mode c k r action P Q x = at (asks_in mode action) where
  at : (b : Bool) → Follows c k P Q
      (cond b (On (due (ask.Take (slot_of (func_of_purpose (purpose_of c)))) r)) (admitted c))
  at true = record { check = tt; take = (x, refl); hashes = tt }
  at false = is_admitted c k P Q c

module _ (mode : Mode) (c : Course) (r : Reply) (action : Action) (P Q : Type 0) where
  take_row : (s : Slot) (t : Told) → HashesAfterAsk P Q (ask.Take s) t
      → Follows c (ask.Take s) P Q (next_by mode c (ask.Take s) r t action)
  take_row s (told.Grant grant) x = is_granted c (ask.Take s) P Q c grant
  take_row s t x = record { check = tt; take = tt; hashes = x }

  chunk_row : (t : Told) → HashesAfterAsk P Q ask.Chunk t
      → Follows c ask.Chunk P Q (next_by mode c ask.Chunk r t action)
  chunk_row told.More x = record { check = tt; take = tt; hashes = x }
  chunk_row t x = record { check = tt; take = tt; hashes = x }

  close_chunk_row : (t : Told) → HashesAfterAsk P Q ask.CloseChunk t
      → Follows c ask.CloseChunk P Q (next_by mode c ask.CloseChunk r t action)
  close_chunk_row told.More x = record { check = tt; take = tt; hashes = x }
  close_chunk_row t x = record { check = tt; take = tt; hashes = x }

  finish_row : (t : Told) → Follows c ask.Finish P Q (next_by mode c ask.Finish r t action)
  finish_row (told.Grant grant) = is_granted c ask.Finish P Q c grant
  finish_row t = tt

  close_take_row : (t : Told) → HashesAfterAsk P Q ask.CloseTake t
      → Follows c ask.CloseTake P Q (next_by mode c ask.CloseTake r t action)
  close_take_row told.Begun x = record { check = tt; take = tt; hashes = x }
  close_take_row t x = tt

  pub row : (k : Ask) (t : Told) → HashesAfterAsk P Q k t
      → Follows c k P Q (next_by mode c k r t action)
  row ask.Count t x = count_row mode c r t action P Q
  row (ask.Check func mask) t x =
      check_row mode c (ask.Check func mask) r action P Q tt
  row (ask.Take s) t x = take_row s t x
  row ask.Chunk t x = chunk_row t x
  row ask.Finish t x = finish_row t
  row (ask.Read from len) t x = is_read c (ask.Read from len) P Q c (reply_of t)
  row ask.CloseTake t x = close_take_row t x
  row ask.CloseChunk t x = close_chunk_row t x
  row k t x = tt
