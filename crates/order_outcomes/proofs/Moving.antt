-- A turn that moves its task makes an event of an inode or answers a call, so that there are more
-- events and replies after it. No other turn changes anything.
use Rattle.std.proofs.Common.{◌≡◌, ℕ, ◌+◌, ◌<◌, ◌≤◌, Bool, true, false, List, [], ◌∷◌, ◌++◌, length, length-append, length-set, sum_by, Option, Some, None, if◌then◌else◌, slice_get, slice_index_or, refl, ap, sym, subst, ◌∙◌, arith}
use Rattle.std.proofs.lemmas.Bool.{true≢false}
use Rattle.std.proofs.lemmas.List.{length-map}
use Rattle.std.proofs.lemmas.List.Sums.{sum_by-cons, sum_by-set}
use Rattle.std.proofs.lemmas.Option.{get_or_from_slice_get, none-some, same_Some, slice_get_within}
use Rattle.order_counts.proofs.Turns.{led-none}
use Rattle.order_counts.specs.Orders.{led}
use Rattle.report_text.specs.model.Ended.{is_done}
use Rattle.report_text.specs.model.EndedValue.{EndedTaskValue, inodes_ended, tasks_ended}
use Rattle.report_text.specs.model.History.{Answer, Position, call_at, plain_answer, replied, resume, resume_in, start, step_at, step_in, who_at}
use Rattle.report_text.specs.model.Rounds.{is_moved, moves, moves_at}
use Rattle.report_text.specs.model.Scene.{Program, Scene, ScriptFile, decided, inode_of, mode_of, rules_with}
use Rattle.report_text.specs.model.Turns.{Moment, State, Turned, journal_at, newborn, resume_told, start_of, state_on, step_check, step_does, step_due, step_signal, step_task, turn, turn_of, turned, turns_of}
use Rattle.report_text.specs.model.events.Asked.{outcome}
use Rattle.report_text.specs.model.events.Checks.{no_action}
use Rattle.report_text.specs.model.events.EndedInode.{EndedInodeValue, ended_inode}
use Rattle.report_text.specs.model.events.Inode.{Inode}
use Rattle.report_text.specs.model.events.NewestFirst.{newest_first}
use Rattle.report_text.specs.model.events.Semaphores.{semaphore_says}
use Rattle.report_text.specs.model.events.State.{metadata}
use Rattle.report_text.specs.model.events.declared.deed.Deed.{Deed}
use Rattle.report_text.specs.model.events.declared.deed.Deed.TheVariants as deed
use Rattle.report_text.specs.model.events.declared.told.Event.{Event}
use Rattle.report_text.specs.model.events.declared.told.Told.{Told}
use Rattle.report_text.specs.model.events.declared.told.Told.TheVariants as told
use Rattle.report_text.specs.model.events.meta.declared.appraisal.Mode.{Mode}
use Rattle.report_text.specs.model.policy.RuleValue.{RuleValue}
use Rattle.report_text.specs.model.policy.declared.access.Action.{Action}
use Rattle.report_text.specs.model.policy.declared.rule.Func.{Func}
use Rattle.report_text.specs.model.steps.CallState.{Progress, Step, after_of, deed_of, moved as moved_on, plain_step, progress_of, step_by}
use Rattle.report_text.specs.model.steps.CallState.{Nothing, Does, Checks, Signals, Appends}
use Rattle.report_text.specs.model.steps.Steps.{course_of, next_by}
use Rattle.report_text.specs.model.steps.declared.ask.Ask.{Ask}
use Rattle.report_text.specs.model.steps.declared.ask.Ask.TheVariants as ask
use Rattle.report_text.specs.model.steps.declared.call.Call.{Call}
use Rattle.report_text.specs.model.steps.declared.call.Call.TheVariants as call
use Rattle.report_text.specs.model.steps.declared.reply.Reply.{Reply}
use Rattle.order_outcomes.specs.Made.{made_of}
use Rattle.order_outcomes.specs.Orders.{left_at, moved}
use Rattle.order_outcomes.specs.declared.made.Made.{Made}

-- ---- replies

-- a step may answer a call, and takes no reply away
longer : (replies : List Reply) (o : Option Reply) → length replies ≤ length (replied replies o)
longer replies None = omega arith
longer replies (Some r) = let more = length-append replies (r ∷ []) in omega (arith, more)

resumed : (mode : Mode) (p : Program) (o : Option Call) (t : Position) (a : Answer)
    → length t.replies ≤ length (resume_in mode p o t a).replies
resumed mode p None t a = omega arith
resumed mode p (Some c) t a =
    longer t.replies (after_of mode p.cred.admin c t.call_state a.place a.told a.action).1

-- a call's step without an event on an inode is its last one, so it has a reply
plain_resumed : (mode : Mode) (p : Program) (c : Call) (t : Position) (a : Answer)
    → (progress_of p.cred.admin c t.call_state).due.ask ≡ ask.Plain
    → length (resume_in mode p (Some c) t a).replies ≡ length t.replies + 1
plain_resumed mode p c t a is =
    let g = progress_of p.cred.admin c t.call_state in
    ap (λ (k : Ask). length (replied t.replies (moved_on c t.call_state g a.place
    (next_by mode (course_of c) k g.due.reply a.told a.action)).1)) is
    ∙ length-append t.replies (g.due.reply ∷ [])

-- ---- one step

-- there are more events and replies than before
abbrev Grows : State → Position → Turned → Type 0
Grows s t r = sum_by length s.journals + length t.replies
    < sum_by length r.state.journals + length r.position.replies

-- an event on an inode
event_grows : (scene : Scene) (n : ℕ) (p : Program) (s : State) (t : Position) (i : ℕ)
    (inode : Inode) (d : Deed) (action : Action) (rules : ℕ) → i < length s.journals
    → (o : Option Told) → is_moved (turn_of o) ≡ true
    → Grows s t (record {
      state = state_on s i inode (who_at n p t.call_state) d o;
      position = resume_told (mode_of scene) p t (length (journal_at s i)) action rules o;
      turn = turn_of o;
    })
event_grows scene n p s t i inode d action rules below None is = absurd (true≢false (sym is))
event_grows scene n p s t i inode d action rules below (Some o) is =
    let e : Event = record { who = who_at n p t.call_state; deed = d; told = o } in
    let set = sum_by-set length s.journals i (journal_at s i ++ e ∷ []) [] below in
    let more = length-append (journal_at s i) (e ∷ []) in
    let keeps = resumed (mode_of scene) p (call_at p t.call_state) t (record {
      place = length (journal_at s i);
      told = o;
      action = action;
      rules = rules;
    }) in
    omega (arith, set, more, keeps)

module _ (scene : Scene) (n : ℕ) (p : Program) (s : State) (t : Position)
    (fits : length s.journals ≡ length scene.script_files) where
  within : (i : ℕ) (script_file : ScriptFile) → slice_get scene.script_files i ≡ Some script_file
      → i < length s.journals
  within i script_file at =
      let below = slice_get_within scene.script_files i script_file at in
      omega (arith, below, fits)

  does_grows : (i : ℕ) (d : Deed) (o : Option ScriptFile) → slice_get scene.script_files i ≡ o
      → is_moved (step_does scene n p s t i o d).turn ≡ true
      → Grows s t (step_does scene n p s t i o d)
  does_grows i d None at is = absurd (true≢false (sym is))
  does_grows i d (Some script_file) at is =
      event_grows scene n p s t i (inode_of scene script_file) d no_action 0
      (within i script_file at)
      (outcome (inode_of scene script_file) s.list d (newest_first (journal_at s i))) is

  check_grows : (i file : ℕ) (func : Func) (mask : ℕ) (o : Option ScriptFile)
      → slice_get scene.script_files i ≡ o
      → is_moved (step_check scene n p s t i o file func mask).turn ≡ true
      → Grows s t (step_check scene n p s t i o file func mask)
  check_grows i file func mask None at is = absurd (true≢false (sym is))
  check_grows i file func mask (Some script_file) at is =
      let rules = rules_with scene s.added in
      let action = decided rules p.cred script_file.place
      (metadata (newest_first (journal_at s i))) func mask in
      let d = deed.Check file func action (length rules) in
      event_grows scene n p s t i (inode_of scene script_file) d action (length rules)
      (within i script_file at)
      (outcome (inode_of scene script_file) s.list d (newest_first (journal_at s i))) is

  module _ (c : Call) (at : call_at p t.call_state ≡ Some c) where
    abbrev due : Progress
    due = progress_of p.cred.admin c t.call_state

    -- the task takes the outcome of its call's last step
    replies_grow : (a : Answer) → due.due.ask ≡ ask.Plain
        → length (resume (mode_of scene) p t a).replies ≡ length t.replies + 1
    replies_grow a plain =
        ap (λ (o : Option Call). length (resume_in (mode_of scene) p o t a).replies) at
        ∙ plain_resumed (mode_of scene) p c t a plain

    signal_grows : (d : Deed) (o : Option Told) → due.due.ask ≡ ask.Plain
        → is_moved (step_signal scene n p s t d o).turn ≡ true
        → Grows s t (step_signal scene n p s t d o)
    signal_grows d None plain is = absurd (true≢false (sym is))
    signal_grows d (Some o) plain is =
        let more = replies_grow (record {
          place = length s.signals;
          told = o;
          action = no_action;
          rules = 0;
        }) plain in
        omega (arith, more)

    nothing_grows : due.due.ask ≡ ask.Plain → Grows s t (step_due scene n p s t (Some Nothing))
    nothing_grows plain =
        let more = replies_grow (plain_answer 0 told.Nothing) plain in
        omega (arith, more)

    appends_grows : (rule : RuleValue) → due.due.ask ≡ ask.Plain
        → Grows s t (step_due scene n p s t (Some (Appends rule)))
    appends_grows rule plain =
        let more = replies_grow (plain_answer (length s.added) told.Done) plain in
        omega (arith, more)

    -- a call's step on the semaphores or the rules, or on nothing
    plain_grows : (k : Call) → due.due.ask ≡ ask.Plain
        → is_moved (step_due scene n p s t (Some (plain_step p.cred.admin k))).turn ≡ true
        → Grows s t (step_due scene n p s t (Some (plain_step p.cred.admin k)))
    plain_grows (call.Post sem) plain is =
        signal_grows (deed.Post sem) (semaphore_says (newest_first s.signals) (deed.Post sem))
        plain is
    plain_grows (call.Wait sem) plain is =
        signal_grows (deed.Wait sem) (semaphore_says (newest_first s.signals) (deed.Wait sem))
        plain is
    plain_grows (call.AddRule rule) plain is = by p.cred.admin
      where
        by : (admin : Bool)
            → Grows s t (step_due scene n p s t (Some (if admin then Appends rule else Nothing)))
        by true = appends_grows rule plain
        by false = nothing_grows plain
    plain_grows _ plain is = nothing_grows plain

    on_inode : (i : ℕ) (d : Deed) → is_moved (step_due scene n p s t (Some (Does i d))).turn ≡ true
        → Grows s t (step_due scene n p s t (Some (Does i d)))
    on_inode i d is = does_grows i d (slice_get scene.script_files i) refl is

    asked_grows : (k : Ask) → due.due.ask ≡ k
        → is_moved (step_due scene n p s t (Some (step_by p.cred.admin c due k))).turn ≡ true
        → Grows s t (step_due scene n p s t (Some (step_by p.cred.admin c due k)))
    asked_grows (ask.Check func mask) e is =
        check_grows due.inode due.file func mask (slice_get scene.script_files due.inode) refl is
    asked_grows ask.Plain e is = plain_grows c e is
    asked_grows ask.Count e is = on_inode due.inode (deed.Count due.how) is
    asked_grows (ask.Take slot) e is = on_inode due.inode (deed.Take due.file) is
    asked_grows ask.Chunk e is = on_inode due.inode (deed.Chunk due.file) is
    asked_grows ask.Finish e is = on_inode due.inode (deed.Finish due.file) is
    asked_grows (ask.Read from len) e is = on_inode due.inode (deed.Read due.file from len) is
    asked_grows ask.Write e is = on_inode due.inode (deed_of p.cred.admin c due.file) is
    asked_grows (ask.Trunc len) e is = on_inode due.inode (deed.Trunc due.file len) is
    asked_grows ask.SetAttr e is = on_inode due.inode (deed_of p.cred.admin c due.file) is
    asked_grows ask.SetMeta e is = on_inode due.inode (deed_of p.cred.admin c due.file) is
    asked_grows ask.Close e is = on_inode due.inode (deed.Close due.file) is
    asked_grows ask.CloseTake e is = on_inode due.inode (deed.CloseTake due.file) is
    asked_grows ask.CloseChunk e is = on_inode due.inode (deed.CloseChunk due.file) is
    asked_grows ask.CloseFinish e is = on_inode due.inode (deed.CloseFinish due.file) is

  called_grows : (o : Option Call) → call_at p t.call_state ≡ o
      → is_moved (step_due scene n p s t (step_in p o t.call_state)).turn ≡ true
      → Grows s t (step_due scene n p s t (step_in p o t.call_state))
  called_grows None at is = absurd (true≢false (sym is))
  called_grows (Some c) at is =
      asked_grows c at (progress_of p.cred.admin c t.call_state).due.ask refl is

  -- a step that moves
  step_grows : is_moved (step_task scene n p s t).turn ≡ true → Grows s t (step_task scene n p s t)
  step_grows is = called_grows (call_at p t.call_state) refl is

-- ---- a moment

-- one journal for each inode, and one position for each task
pub record Fits (scene : Scene) (m : Moment) : Type 0 where
  pub journals : length m.state.journals ≡ length scene.script_files
  pub positions : length m.positions ≡ length scene.programs

abbrev replies_of : Position → ℕ
replies_of t = length t.replies

-- the number of events and replies at the moment
abbrev pub size : Moment → ℕ
size m = sum_by length m.state.journals + sum_by replies_of m.positions

-- the events of the inodes are those of their journals
inode_sizes : (scene : Scene) (ss : List ScriptFile) (js : List (List Event))
    → length js ≡ length ss
    → sum_by (λ (i : EndedInodeValue). length i.journal) (inodes_ended scene ss js)
    ≡ sum_by length js
inode_sizes scene [] [] e = refl
inode_sizes scene [] (j ∷ js) e = absurd (omega (arith, e))
inode_sizes scene (s ∷ ss) [] e = absurd (omega (arith, e))
inode_sizes scene (s ∷ ss) (j ∷ js) e =
    let rest = inode_sizes scene ss js (omega (arith, e)) in
    sum_by-cons (λ (i : EndedInodeValue). length i.journal) (ended_inode (inode_of scene s) j)
    (inodes_ended scene ss js)
    ∙ ap (λ k. length j + k) rest ∙ sym (sum_by-cons length j js)

task_sizes : (ps : List Program) (ts : List Position) → length ts ≡ length ps
    → sum_by (λ (t : EndedTaskValue). length t.replies) (tasks_ended ps ts)
    ≡ sum_by replies_of ts
task_sizes [] [] e = refl
task_sizes [] (t ∷ ts) e = absurd (omega (arith, e))
task_sizes (p ∷ ps) [] e = absurd (omega (arith, e))
task_sizes (p ∷ ps) (t ∷ ts) e =
    let rest = task_sizes ps ts (omega (arith, e)) in
    sum_by-cons (λ (t : EndedTaskValue). length t.replies)
    (record { done = is_done p t; replies = t.replies }) (tasks_ended ps ts)
    ∙ ap (λ k. length t.replies + k) rest ∙ sym (sum_by-cons replies_of t ts)

pub made_is : (scene : Scene) (m : Moment) → Fits scene m
    → (made_of (left_at scene m)).events + (made_of (left_at scene m)).replies ≡ size m
made_is scene m fits = λ i.
    inode_sizes scene scene.script_files m.state.journals fits.journals i
    + task_sizes scene.programs m.positions fits.positions i

-- a turn that moves its task
turned_grows : (scene : Scene) (m : Moment) (n : ℕ) → Fits scene m
    → (q : Option Program) (o : Option Position) → slice_get m.positions n ≡ o
    → moves_at scene m n q o ≡ true → size m < size (turned scene m n q o)
turned_grows scene m n fits None o at is = absurd (true≢false (sym is))
turned_grows scene m n fits (Some p) None at is = absurd (true≢false (sym is))
turned_grows scene m n fits (Some p) (Some t) at is =
    let below = slice_get_within m.positions n t at in
    let after = (step_task scene n p m.state t).position in
    let set = sum_by-set replies_of m.positions n after t below in
    let old : length (slice_index_or m.positions n t).replies ≡ length t.replies
    = ap replies_of (get_or_from_slice_get m.positions n t t at) in
    let grows = step_grows scene n p m.state t fits.journals is in
    omega (arith, set, old, grows)

pub turn_grows : (scene : Scene) (m : Moment) (n : ℕ) → Fits scene m → moves scene m n ≡ true
    → size m < size (turn scene m n)
turn_grows scene m n fits is =
    turned_grows scene m n fits (slice_get scene.programs n) (slice_get m.positions n) refl is

-- ---- the journals and the positions of a moment that turns lead to

step_fits : (scene : Scene) (n : ℕ) (p : Program) (s : State) (t : Position) (k : Option Step)
    → length (step_due scene n p s t k).state.journals ≡ length s.journals
step_fits scene n p s t None = refl
step_fits scene n p s t (Some Nothing) = refl
step_fits scene n p s t (Some (Does i d)) = by (slice_get scene.script_files i)
  where
    by : (o : Option ScriptFile)
        → length (step_does scene n p s t i o d).state.journals ≡ length s.journals
    by None = refl
    by (Some script_file) = length-set s.journals i _
step_fits scene n p s t (Some (Checks i file func mask)) = by (slice_get scene.script_files i)
  where
    by : (o : Option ScriptFile)
        → length (step_check scene n p s t i o file func mask).state.journals ≡ length s.journals
    by None = refl
    by (Some script_file) = length-set s.journals i _
step_fits scene n p s t (Some (Signals d)) = refl
step_fits scene n p s t (Some (Appends rule)) = refl

turned_fits : (scene : Scene) (m : Moment) (n : ℕ) → Fits scene m → (p : Option Program)
    (t : Option Position) → Fits scene (turned scene m n p t)
turned_fits scene m n fits None t = fits
turned_fits scene m n fits (Some p) None = fits
turned_fits scene m n fits (Some p) (Some t) = record {
  journals = step_fits scene n p m.state t (step_at p t.call_state) ∙ fits.journals;
  positions = length-set m.positions n _ ∙ fits.positions;
}

pub turn_fits : (scene : Scene) (m : Moment) (n : ℕ) → Fits scene m → Fits scene (turn scene m n)
turn_fits scene m n fits =
    turned_fits scene m n fits (slice_get scene.programs n) (slice_get m.positions n)

pub start_fits : (scene : Scene) → Fits scene (start_of scene)
start_fits scene = record {
  journals = length-map scene.script_files newborn;
  positions = length-map scene.programs (λ (p : Program). start);
}

-- turns that each move their task lead where they lead as a schedule
pub led_fits : (scene : Scene) (turns : List ℕ) (m at : Moment) → Fits scene m
    → led (moved scene) (Some m) turns ≡ Some at
    → Fits scene at × (turns_of scene m turns ≡ at)
led_fits scene [] m at fits h =
    let e = same_Some m at h in
    (subst (λ (x : Moment). Fits scene x) e fits, e)
led_fits scene (n ∷ ns) m at fits h =
    by (moves scene m n) h (led_fits scene ns (turn scene m n) at (turn_fits scene m n fits))
  where
    by : (b : Bool)
        → led (moved scene) (if b then Some (turn scene m n) else None) ns ≡ Some at
        → (led (moved scene) (Some (turn scene m n)) ns ≡ Some at
        → Fits scene at × (turns_of scene (turn scene m n) ns ≡ at))
        → Fits scene at × (turns_of scene (turn scene m n) ns ≡ at)
    by true leads rest = rest leads
    by false leads rest = absurd (none-some at (sym (led-none (moved scene) ns) ∙ leads))

-- ---- whether a turn has moved its task

-- as much as before was made only if the turn didn't move its task
pub told_by : (scene : Scene) (m : Moment) (n : ℕ) → Fits scene m → (b : Bool)
    → moves scene m n ≡ b → made_of (left_at scene (turn scene m n)) ≡ made_of (left_at scene m)
    → b ≡ false
told_by scene m n fits false is same = refl
told_by scene m n fits true is same =
    let grows = turn_grows scene m n fits is in
    let before = made_is scene m fits in
    let after = made_is scene (turn scene m n) (turn_fits scene m n fits) in
    let events = ap (λ (x : Made). x.events) same in
    let replies = ap (λ (x : Made). x.replies) same in
    absurd (omega (arith, grows, before, after, events, replies))
