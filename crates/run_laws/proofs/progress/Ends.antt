-- If no task moves, each is done or waits for a semaphore that is at 0.
use Rattle.std.proofs.Common.{◌≡◌, ℕ, zero, suc, ◌≤◌, Bool, true, false, ◌&&◌, ◌||◌, not, cond, List, [], ◌∷◌, length, Option, Some, None, refl, sym, ◌∙◌, ap, subst, arith}
use Rattle.std.specs.Prelude.{nat_lt, slice_get}
use Rattle.std.proofs.lemmas.Bool.{and_from, eq-eqb, ltb-false, or_left, or_right}
use Rattle.std.proofs.lemmas.Option.{same_Some, slice_get_within}
use Rattle.inode_events.specs.templates.declared.entry.Placed.{Placed}
use Rattle.inode_events.specs.Asked.{asked, placed_for}
use Rattle.inode_events.specs.Inode.{Inode}
use Rattle.inode_events.specs.Integrity.{Collection, collecting, in_force}
use Rattle.inode_events.specs.Legal.{EachFollows, May}
use Rattle.inode_events.specs.NewestFirst.{newest_first}
use Rattle.inode_events.specs.Says.{close_take_told, says, set_attr_told, set_meta_told, take_told, unless_collecting}
use Rattle.inode_events.specs.Files.{writers}
use Rattle.inode_events.specs.Marks.{is_label_due}
use Rattle.inode_events.specs.Semaphores.{left as count_left, is_post}
use Rattle.inode_events.specs.declared.deed.Deed.{Deed}
use Rattle.inode_events.specs.declared.deed.Deed.TheVariants as deed
use Rattle.inode_events.specs.declared.told.Event.{Event}
use Rattle.inode_events.specs.declared.told.Told.{Told}
use Rattle.inode_events.specs.declared.told.Told.TheVariants as told
use Rattle.inode_events.specs.policy.declared.rule.Func.{Func}
use Rattle.journal_laws.proofs.Stages.{Collects, stages}
use Rattle.call_steps.specs.CallState.{Progress, Step, ask_of, plain_step, progress_of, step_by}
use Rattle.call_steps.specs.CallState.{Nothing, Does, Checks, Signals, Appends}
use Rattle.call_steps.specs.declared.ask.Ask.{Ask}
use Rattle.call_steps.specs.declared.ask.Ask.TheVariants as ask
use Rattle.call_steps.specs.declared.call.Call.{Call}
use Rattle.call_steps.specs.declared.call.Call.TheVariants as call
use Rattle.run_model.specs.Ended.{all_done, all_wait, is_done, left, posted, posts_to, waited, waits_in_vain}
use Rattle.run_model.specs.History.{Position, call_at, own_signals, step_at, step_in}
use Rattle.run_model.specs.Rounds.{is_moved}
use Rattle.run_model.specs.Scene.{Program, Scene, ScriptFile, inode_of, mode_of}
use Rattle.run_model.specs.Turns.{Moment, State, step_check, step_due, step_task, turn_of}
use Rattle.inode_events.specs.Semaphores.{semaphore_says}
use Rattle.run_laws.specs.progress.Resting.{AtRest, EndsAtRest, MayStep, PaidWhenReached, Resting}
use Rattle.run_laws.proofs.progress.Counted.{Fits, history_fits, posts_agree, signal_of}
use Rattle.run_laws.proofs.progress.Free.{does_turn, moves_is, no_collection}
use Rattle.inode_events.proofs.Paid.{paid}
use Rattle.run_laws.proofs.progress.Totals.{count_past, counted, counted_when_reached}
use Rattle.inode_events.specs.Stage.{is_collecting}

both_ways : (b : Bool) → b ≡ true → b ≡ false → ⊥
both_ways true x y = absurd (cc)
both_ways false x y = absurd (cc)

-- ---- an event on an inode with no open collection

open_by : (o : Option Collection) (f : ℕ) → o ≡ None → Collects f o → ⊥
open_by None f e c = c
open_by (Some x) f e c = absurd (cc)

unless_free : (o : Option Collection) (x : Told) → o ≡ None
    → (t : Told) × (unless_collecting o x ≡ Some t)
unless_free o x e = (x, ap (λ (y : Option Collection). unless_collecting y x) e)

free_told : (i : Inode) (p : List Event) (placed : Placed) (d : Deed) → EachFollows i p
    → collecting i p ≡ None → May i p d → (t : Told) × (says i p placed d ≡ Some t)
free_told i p placed (deed.Count how) legal free may = (_, refl)
free_told i p placed (deed.Check file func action rules) legal free may = (_, refl)
free_told i p placed (deed.Take file) legal free may =
    unless_free (collecting i p) (take_told i file placed (in_force i p) p) free
free_told i p placed (deed.Chunk file) legal free may =
    absurd (open_by (collecting i p) file free ((stages i p legal).0 file (ap is_collecting may)))
free_told i p placed (deed.Finish file) legal free may =
    absurd (open_by (collecting i p) file free ((stages i p legal).0 file (ap is_collecting may)))
free_told i p placed (deed.Read file from len) legal free may = (_, refl)
free_told i p placed (deed.Write file from bytes) legal free may = (_, refl)
free_told i p placed (deed.Trunc file len) legal free may = (_, refl)
free_told i p placed (deed.SetAttr name bytes admin) legal free may =
    unless_free (collecting i p) (set_attr_told i name bytes admin p) free
free_told i p placed (deed.SetMeta change) legal free may =
    unless_free (collecting i p) (set_meta_told i p) free
free_told i p placed (deed.Close file) legal free may = (_, refl)
free_told i p placed (deed.CloseTake file) legal free may =
    unless_free (collecting i p) (close_take_told (is_label_due i p) (writers p)) free
free_told i p placed (deed.CloseChunk file) legal free may =
    absurd (open_by (collecting i p) file free ((stages i p legal).0 file (ap is_collecting may)))
free_told i p placed (deed.CloseFinish file) legal free may = (_, refl)
free_told i p placed deed.Birth legal free may = absurd may
free_told i p placed (deed.Post sem) legal free may = absurd may
free_told i p placed (deed.Wait sem) legal free may = absurd may

-- ---- a step on the semaphores

deed_in : Step → Deed
deed_in (Signals d) = d
deed_in _ = deed.Birth

plain_call : (admin : Bool) (c : Call) (d : Deed) → plain_step admin c ≡ Signals d
    → signal_of c ≡ Some d
unfolding deed_in
plain_call admin (call.Post sem) d e = ap (λ (x : Step). Some (deed_in x)) e
plain_call admin (call.Wait sem) d e = ap (λ (x : Step). Some (deed_in x)) e
plain_call true (call.AddRule rule) d e = absurd (cc)
plain_call false (call.AddRule rule) d e = absurd (cc)
plain_call admin c d e = absurd (cc)

signal_call : (admin : Bool) (c : Call) (g : Progress) (k : Ask) (d : Deed)
    → step_by admin c g k ≡ Signals d → signal_of c ≡ Some d
signal_call admin c g ask.Plain d e = plain_call admin c d e
signal_call admin c g k d e = absurd (cc)

get_none : {A : Type 0} (xs : List A) (k : ℕ) → slice_get xs k ≡ None → length xs ≤ k
get_none [] k h = omega arith
get_none (x ∷ xs) zero h = absurd (cc)
get_none (x ∷ xs) (suc k) h = let ih = get_none xs k h in omega arith

-- ---- a task that doesn't move

abbrev Ends : (ℕ → ℕ) → Program → Position → Type 0
Ends left_of p t =
    (is_done p t || waits_in_vain left_of (slice_get p.calls (length t.replies))) ≡ true

wait_ends : (left_of : ℕ → ℕ) (p : Program) (t : Position) (sem : ℕ)
    → length t.replies ≡ t.call_state.at
    → call_at p t.call_state ≡ Some (call.Wait sem) → left_of sem ≡ 0 → Ends left_of p t
wait_ends left_of p t sem even at none =
    or_right (is_done p t) (waits_in_vain left_of (slice_get p.calls (length t.replies)))
    (ap (λ (k : ℕ). waits_in_vain left_of (slice_get p.calls k)) even
    ∙ ap (waits_in_vain left_of) at ∙ eq-eqb (left_of sem) 0 none)

signal_ends : (left_of : ℕ → ℕ) (p : Program) (t : Position) (signals : List Event) (c : Call)
    (d : Deed) → ((sem : ℕ) → left_of sem ≡ count_left sem signals)
    → length t.replies ≡ t.call_state.at → call_at p t.call_state ≡ Some c → signal_of c ≡ Some d
    → is_moved (turn_of (semaphore_says signals d)) ≡ false → Ends left_of p t
signal_ends left_of p t signals (call.Post sem) d l even at s h =
    let e : deed.Post sem ≡ d = same_Some (deed.Post sem) d s in
    let z : is_moved (turn_of (semaphore_says signals (deed.Post sem))) ≡ false =
    ap (λ (x : Deed). is_moved (turn_of (semaphore_says signals x))) e ∙ h in
    absurd (cc)
signal_ends left_of p t signals (call.Wait sem) d l even at s h =
    let e : deed.Wait sem ≡ d = same_Some (deed.Wait sem) d s in
    by_count (nat_lt 0 (count_left sem signals)) refl
    (ap (λ (x : Deed). is_moved (turn_of (semaphore_says signals x))) e ∙ h) where
      by_count : (b : Bool) → nat_lt 0 (count_left sem signals) ≡ b
          → is_moved (turn_of (cond b (Some told.Done) None)) ≡ false → Ends left_of p t
      by_count true q z = absurd (cc)
      by_count false q z =
          let none : count_left sem signals ≤ 0 = ltb-false 0 (count_left sem signals) q in
          let same : left_of sem ≡ count_left sem signals = l sem in
          let zero_left : left_of sem ≡ 0 = omega arith in
          wait_ends left_of p t sem even at zero_left
signal_ends left_of p t signals c d l even at s h = absurd (cc)

done_ends : (left_of : ℕ → ℕ) (p : Program) (t : Position) → length t.replies ≡ t.call_state.at
    → t.call_state.at ≤ length p.calls → (o : Option Call) → call_at p t.call_state ≡ o
    → step_in p o t.call_state ≡ None → Ends left_of p t
done_ends left_of p t even within (Some c) at e = absurd (cc)
done_ends left_of p t even within None at e =
    let over : length p.calls ≤ t.call_state.at = get_none p.calls t.call_state.at at in
    let whole : length t.replies ≡ length p.calls = omega arith in
    or_left (is_done p t) (waits_in_vain left_of (slice_get p.calls (length t.replies)))
    (eq-eqb (length t.replies) (length p.calls) whole)

signal_step : (left_of : ℕ → ℕ) (p : Program) (t : Position) (signals : List Event) (d : Deed)
    → ((sem : ℕ) → left_of sem ≡ count_left sem signals)
    → length t.replies ≡ t.call_state.at → (o : Option Call) → call_at p t.call_state ≡ o
    → step_in p o t.call_state ≡ Some (Signals d)
    → is_moved (turn_of (semaphore_says signals d)) ≡ false → Ends left_of p t
signal_step left_of p t signals d l even None at e h = absurd (cc)
signal_step left_of p t signals d l even (Some c) at e h =
    let s : signal_of c ≡ Some d =
    signal_call p.cred.admin c (progress_of p.cred.admin c t.call_state)
    (progress_of p.cred.admin c t.call_state).due.ask d
    (same_Some (ask_of p.cred.admin c t.call_state) (Signals d) e) in
    signal_ends left_of p t signals c d l even at s h

check_moves : (scene : Scene) (n : ℕ) (p : Program) (s : State) (t : Position) (i file : ℕ)
    (func : Func) (mask : ℕ) (script_file : ScriptFile)
    → slice_get scene.script_files i ≡ Some script_file
    → is_moved (step_check scene n p s t i (slice_get scene.script_files i) file func mask).turn
    ≡ true
check_moves scene n p s t i file func mask script_file e =
    ap (λ (o : Option ScriptFile). is_moved (step_check scene n p s t i o file func mask).turn) e

task_ends : (scene : Scene) (m : Moment) (r : AtRest scene m) (left_of : ℕ → ℕ)
    → ((sem : ℕ) → left_of sem ≡ count_left sem (newest_first m.state.signals))
    → (n : ℕ) (p : Program) (t : Position) → length t.replies ≡ t.call_state.at
    → t.call_state.at ≤ length p.calls → is_moved (step_task scene n p m.state t).turn ≡ false
    → (o : Option Step) → step_at p t.call_state ≡ o → MayStep scene m.state o
    → is_moved (step_due scene n p m.state t o).turn ≡ false → Ends left_of p t
task_ends scene m r left_of l n p t even within whole None e may h =
    done_ends left_of p t even within (call_at p t.call_state) refl e
task_ends scene m r left_of l n p t even within whole (Some Nothing) e may h = absurd (cc)
task_ends scene m r left_of l n p t even within whole (Some (Appends rule)) e may h = absurd (cc)
task_ends scene m r left_of l n p t even within whole (Some (Signals d)) e may h =
    signal_step left_of p t (newest_first m.state.signals) d l even (call_at p t.call_state) refl
    e h
task_ends scene m r left_of l n p t even within whole (Some (Checks i file func mask)) e may h =
    absurd (both_ways _ (check_moves scene n p m.state t i file func mask may.0 may.1) h)
task_ends scene m r left_of l n p t even within whole (Some (Does i d)) e may h =
    let legal = r.legal.follows i may.0 may.1 may.2 may.3 in
    let free : collecting (inode_of scene may.0) (newest_first may.1) ≡ None =
    no_collection scene m r i may.0 may.1 may.2 may.3
    (collecting (inode_of scene may.0) (newest_first may.1)) refl in
    let told = free_told (inode_of scene may.0) (newest_first may.1)
    (placed_for m.state.list (asked (inode_of scene may.0) d
    (newest_first may.1))) d legal.0 free may.4 in
    let moved : is_moved (step_task scene n p m.state t).turn ≡ true =
    does_turn scene n p m.state t i d may.0 may.1 e may.2 may.3
    ∙ ap (λ (o : Option Told). is_moved (turn_of o)) told.1 in
    absurd (both_ways (is_moved (step_task scene n p m.state t).turn) moved whole)

-- ---- all tasks

all_end : (left_of : ℕ → ℕ) (programs : List Program) (positions : List Position)
    → ((k : ℕ) (p : Program) (t : Position) → slice_get programs k ≡ Some p
    → slice_get positions k ≡ Some t → Ends left_of p t)
    → all_wait left_of programs positions ≡ true
all_end left_of [] positions each = refl
all_end left_of (p ∷ ps) [] each = refl
all_end left_of (p ∷ ps) (t ∷ ts) each =
    and_from _ _ (each 0 p t refl refl) (all_end left_of ps ts (λ k. each (suc k)))

through : (a w : Bool) → w ≡ true → (a || (not a && w)) ≡ true
through true w e = refl
through false w e = e

-- every wait that was answered had its post
pub paid_when : PaidWhenReached
paid_when scene m r sem =
    let both = counted_when_reached scene m r sem in
    let same = count_past sem m.state.signals in
    let le = paid sem (newest_first m.state.signals) r.legal.are_signals in
    omega (arith, both.0, both.1, same.0, same.1, le)

pub ends : EndsAtRest
ends scene m r = (
  paid_at,
  through (all_done scene.programs m.positions)
      (all_wait (λ sem. left sem scene.programs m.positions) scene.programs m.positions)
      (all_end (λ sem. left sem scene.programs m.positions) scene.programs m.positions each),
) where
  paid_at : (sem : ℕ)
      → waited sem scene.programs m.positions ≤ posted sem scene.programs m.positions
  paid_at = paid_when scene m (record { legal = r.legal; tasks = r.tasks })

  left_is : (sem : ℕ)
      → left sem scene.programs m.positions ≡ count_left sem (newest_first m.state.signals)
  left_is sem =
      let both = counted scene m r sem in
      let same = count_past sem m.state.signals in
      omega (arith, both.0, both.1, same.0, same.1)

  each : (k : ℕ) (p : Program) (t : Position) → slice_get scene.programs k ≡ Some p
      → slice_get m.positions k ≡ Some t → Ends (λ sem. left sem scene.programs m.positions) p t
  each k p t a b =
      let rest : Resting scene m.state k p t = r.tasks k p t a b in
      let fits : Fits (is_post 0) (posts_to 0) p t (own_signals (mode_of scene) k p rest.history) =
      subst (λ (u : Position). Fits (is_post 0) (posts_to 0) p u
      (own_signals (mode_of scene) k p rest.history)) rest.stands
      (history_fits (is_post 0) (posts_to 0) (posts_agree 0)
      (mode_of scene) k p rest.history) in
      let still : is_moved (step_task scene k p m.state t).turn ≡ false =
      sym (moves_is scene m k p t a b) ∙ r.still k (slice_get_within scene.programs k p a) in
      task_ends scene m r
      (λ sem. left sem scene.programs m.positions) left_is k p t fits.even fits.within still
      (step_at p t.call_state) refl rest.may still
