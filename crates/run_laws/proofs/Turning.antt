-- Turns preserve the fit of tasks' checks, and that the number of rules never falls.
use Rattle.std.proofs.Common.{◌≡◌, ℕ, zero, suc, ◌+◌, ◌<◌, List, [], ◌∷◌, ◌++◌, length, map, get_or, Option, Some, None, refl, sym, ◌∙◌, ap, subst, arith, inl, inr, length-append}
use Rattle.std.specs.Prelude.{◌⊎◌, Bool, true, false, cond, nat_lt, slice_get, slice_set}
use Rattle.std.proofs.lemmas.List.{length-map, length-set}
use Rattle.std.proofs.lemmas.Option.{same_Some, slice_get_within, slice_get-get_or}
use mathlib.Core.List.{IsPrefix}
use Rattle.grow_list.proofs.Prefixes.{prefix_append, prefix_refl}
use Rattle.inode_events.specs.meta.declared.step.Who.{Who}
use Rattle.policy_rules.specs.declared.access.Action.{Action}
use Rattle.policy_rules.specs.declared.rule.Func.{Func}
use Rattle.inode_events.specs.Asked.{made, outcome}
use Rattle.inode_events.specs.Checks.{no_action}
use Rattle.inode_events.specs.Inode.{Inode, nobody}
use Rattle.inode_events.specs.NewestFirst.{newest_first}
use Rattle.inode_events.specs.Semaphores.{left, semaphore_says}
use Rattle.inode_events.specs.State.{metadata}
use Rattle.inode_events.specs.declared.deed.Deed.{Deed}
use Rattle.inode_events.specs.declared.deed.Deed.TheVariants as deed
use Rattle.inode_events.specs.declared.told.Event.{Event}
use Rattle.inode_events.specs.declared.told.Told.{Told}
use Rattle.inode_events.specs.declared.told.Told.TheVariants as told
use Rattle.run_model.specs.steps.CallState.{Step}
use Rattle.run_model.specs.steps.CallState.{Nothing, Does, Checks, Signals, Appends}
use Rattle.run_model.specs.steps.CallState.{CallState, Progress, ask_of, deed_of, plain_step, progress_of, step_by}
use Rattle.run_model.specs.steps.declared.ask.Ask.{Ask}
use Rattle.run_model.specs.steps.declared.ask.Ask.TheVariants as ask
use Rattle.run_model.specs.steps.declared.call.Call.{Call}
use Rattle.run_model.specs.steps.declared.call.Call.TheVariants as call
use Rattle.run_model.specs.History.{Answer, Position, call_at, event, plain_answer, position, start, step_at, step_in, who_at}
use Rattle.run_model.specs.Scene.{Program, Scene, ScriptFile, decided, inode_of, mode_of, rules_with}
use Rattle.run_model.specs.Turns.{Moment, State, journal_at, newborn, resume_told, run_at, start_of, state_on, step_check, step_does, step_due, step_task, turn, turned, turns_of}
use Rattle.run_model.specs.rules.declared.cell.RuleEntry.{RuleEntry}
use Rattle.run_laws.specs.Checks.{ChecksFit, IsPlainStep, JournalsGrow, Longer, SeesMore, seen_of}
use Rattle.run_laws.specs.Moments.{FitIsSuited, HasChecks, HasSuited, IsFit, ScriptFilesRise, StepFits, StepGrows, StepResumes, StepRises, TurnFits, TurnsAreFit, answers_to, answers_told, check_answers, does_answers, history_after, seen_in}
use Rattle.run_laws.specs.ScriptFiles.{CountsAll, ScriptFileRules}
use Rattle.run_laws.proofs.Checking.{law_fits_are_suited, law_fits_at_first, law_fits_by_check, law_fits_by_step, law_fits_with_more, rules_count}
use Rattle.run_laws.proofs.Risen.{law_rise_at_first, law_rise_by_look, law_rise_by_outcome}

-- ---- lists

pub set_cases : {A : Type 0} (xs : List A) (i k : ℕ) (x y : A)
    → slice_get (slice_set xs i x) k ≡ Some y → ((k ≡ i) × (y ≡ x)) ⊎ (slice_get xs k ≡ Some y)
set_cases [] i k x y h = inr h
set_cases (z ∷ xs) zero zero x y h = inl (refl, sym (same_Some x y h))
set_cases (z ∷ xs) zero (suc k) x y h = inr h
set_cases (z ∷ xs) (suc i) zero x y h = inr h
set_cases (z ∷ xs) (suc i) (suc k) x y h = at (set_cases xs i k x y h) where
  at : ((k ≡ i) × (y ≡ x)) ⊎ (slice_get xs k ≡ Some y)
      → ((suc k ≡ suc i) × (y ≡ x)) ⊎ (slice_get xs k ≡ Some y)
  at (inl e) = inl (ap suc e.0, e.1)
  at (inr e) = inr e

pub longer_next : (j : List Event) (js : List (List Event)) (k : ℕ) (journal : List Event)
    → Longer js k journal → Longer (j ∷ js) (suc k) journal
longer_next j js k journal l = record { longer = l.longer; there = l.there; before = l.before }

journals_grow : (js : List (List Event)) (i : ℕ) (ys : List Event)
    → JournalsGrow js (slice_set js i (get_or js i [] ++ ys))
journals_grow [] i ys k journal h = absurd (cc)
journals_grow (j ∷ js) zero ys zero journal h =
    record {
      longer = j ++ ys;
      there = refl;
      before = subst
          (λ (l : List Event). IsPrefix l (j ++ ys)) (same_Some j journal h) (prefix_append j ys);
    }
journals_grow (j ∷ js) zero ys (suc k) journal h =
    record { longer = journal; there = h; before = prefix_refl journal }
journals_grow (j ∷ js) (suc i) ys zero journal h =
    record { longer = journal; there = h; before = prefix_refl journal }
journals_grow (j ∷ js) (suc i) ys (suc k) journal h =
    longer_next j (slice_set js i (get_or js i [] ++ ys)) k journal
    (journals_grow js i ys k journal h)

pub journals_same : (js : List (List Event)) → JournalsGrow js js
journals_same js k journal h = record { longer = journal; there = h; before = prefix_refl journal }

-- ---- the task after a turn

resumed_told : (scene : Scene) (p : Program) (h : List Answer) (place : ℕ) (action : Action)
    (rules : ℕ) (o : Option Told)
    → resume_told (mode_of scene) p (position (mode_of scene) p h) place action rules o
    ≡ position (mode_of scene) p (answers_told place action rules o ++ h)
resumed_told scene p h place action rules None = refl
resumed_told scene p h place action rules (Some t) = refl

does_resumes : (scene : Scene) (n : ℕ) (p : Program) (s : State) (h : List Answer) (i : ℕ)
    (o : Option ScriptFile) (d : Deed)
    → (step_does scene n p s (position (mode_of scene) p h) i o d).position
    ≡ position (mode_of scene) p (does_answers scene s i o d ++ h)
does_resumes scene n p s h i None d = refl
does_resumes scene n p s h i (Some script_file) d =
    resumed_told scene p h (length (journal_at s i)) no_action 0
    (outcome (inode_of scene script_file) s.list d (newest_first (journal_at s i)))

check_resumes : (scene : Scene) (n : ℕ) (p : Program) (s : State) (h : List Answer) (i : ℕ)
    (o : Option ScriptFile) (file : ℕ) (func : Func) (mask : ℕ)
    → (step_check scene n p s (position (mode_of scene) p h) i o file func mask).position
    ≡ position (mode_of scene) p (check_answers scene p s i o file func mask ++ h)
check_resumes scene n p s h i None file func mask = refl
check_resumes scene n p s h i (Some script_file) file func mask =
    resumed_told scene p h (length (journal_at s i))
    (decided (rules_with scene s.added) p.cred script_file.place
    (metadata (newest_first (journal_at s i))) func mask) (length (rules_with scene s.added))
    (outcome (inode_of scene script_file) s.list
    (deed.Check file func (decided (rules_with scene s.added) p.cred script_file.place
    (metadata (newest_first (journal_at s i))) func mask) (length (rules_with scene s.added)))
    (newest_first (journal_at s i)))

step_resumes : (scene : Scene) (n : ℕ) (p : Program) (s : State) (h : List Answer) (o : Option Step)
    → (step_due scene n p s (position (mode_of scene) p h) o).position
    ≡ position (mode_of scene) p (answers_to scene p s o ++ h)
step_resumes scene n p s h None = refl
step_resumes scene n p s h (Some Nothing) = refl
step_resumes scene n p s h (Some (Does i d)) =
    does_resumes scene n p s h i (slice_get scene.script_files i) d
step_resumes scene n p s h (Some (Checks i file func mask)) =
    check_resumes scene n p s h i (slice_get scene.script_files i) file func mask
step_resumes scene n p s h (Some (Signals d)) =
    resumed_told scene p h (length s.signals) no_action 0
    (semaphore_says (newest_first s.signals) d)
step_resumes scene n p s h (Some (Appends rule)) = refl

pub law_step_resumes : StepResumes
law_step_resumes scene n p s h =
    step_resumes scene n p s h (step_at p (position (mode_of scene) p h).call_state)

-- ---- the lists after a turn

abbrev Grows : State → State → Type 0
Grows s new = SeesMore (seen_in s) (seen_in new) × (length new.journals ≡ length s.journals)

same_grows : (s : State) → Grows s s
same_grows s = (record { journals = journals_same s.journals; added = prefix_refl s.added }, refl)

event_grows : (s : State) (i : ℕ) (inode : Inode) (who : Who) (d : Deed) (o : Option Told)
    → Grows s (state_on s i inode who d o)
event_grows s i inode who d o = (
  record { journals = journals_grow s.journals i (made who d o); added = prefix_refl s.added },
  length-set s.journals i (journal_at s i ++ made who d o),
)

does_grows : (scene : Scene) (n : ℕ) (p : Program) (s : State) (t : Position) (i : ℕ)
    (o : Option ScriptFile) (d : Deed) → Grows s (step_does scene n p s t i o d).state
does_grows scene n p s t i None d = same_grows s
does_grows scene n p s t i (Some script_file) d =
    event_grows s i (inode_of scene script_file) (who_at n p t.call_state) d
    (outcome (inode_of scene script_file) s.list d (newest_first (journal_at s i)))

check_grows : (scene : Scene) (n : ℕ) (p : Program) (s : State) (t : Position) (i : ℕ)
    (o : Option ScriptFile) (file : ℕ) (func : Func) (mask : ℕ)
    → Grows s (step_check scene n p s t i o file func mask).state
check_grows scene n p s t i None file func mask = same_grows s
check_grows scene n p s t i (Some script_file) file func mask =
    event_grows s i (inode_of scene script_file) (who_at n p t.call_state)
    (deed.Check file func (decided (rules_with scene s.added) p.cred script_file.place
    (metadata (newest_first (journal_at s i))) func mask) (length (rules_with scene s.added)))
    (outcome (inode_of scene script_file) s.list
    (deed.Check file func (decided (rules_with scene s.added) p.cred script_file.place
    (metadata (newest_first (journal_at s i))) func mask) (length (rules_with scene s.added)))
    (newest_first (journal_at s i)))

step_grows : (scene : Scene) (n : ℕ) (p : Program) (s : State) (t : Position) (o : Option Step)
    → Grows s (step_due scene n p s t o).state
step_grows scene n p s t None = same_grows s
step_grows scene n p s t (Some Nothing) = same_grows s
step_grows scene n p s t (Some (Does i d)) =
    does_grows scene n p s t i (slice_get scene.script_files i) d
step_grows scene n p s t (Some (Checks i file func mask)) =
    check_grows scene n p s t i (slice_get scene.script_files i) file func mask
step_grows scene n p s t (Some (Signals d)) =
    (record { journals = journals_same s.journals; added = prefix_refl s.added }, refl)
step_grows scene n p s t (Some (Appends rule)) = (
  record {
    journals = journals_same s.journals;
    added = prefix_append s.added (record { who = who_at n p t.call_state; rule = rule } ∷ []);
  },
  refl,
)

pub law_step_grows : StepGrows
law_step_grows scene n p s t = step_grows scene n p s t (step_at p t.call_state)

-- ---- the task's checks after a turn

abbrev FitsAfter : Scene → Program → List Answer → State → List Answer → Type 0
FitsAfter scene p h new answers = ChecksFit scene p (seen_in new) (answers ++ h)

does_told : (scene : Scene) (p : Program) (s new : State) (h : List Answer) (i : ℕ) (d : Deed)
    (place : ℕ) (o : Option Told) → Grows s new
    → step_at p (position (mode_of scene) p h).call_state ≡ Some (Does i d)
    → i < length scene.script_files → ChecksFit scene p (seen_in s) h
    → FitsAfter scene p h new (answers_told place no_action 0 o)
does_told scene p s new h i d place None g at l f =
    law_fits_with_more scene p (seen_in s) (seen_in new) h g.0 f
does_told scene p s new h i d place (Some t) g at l f =
    law_fits_by_step scene p (seen_in s) (seen_in new) h (plain_answer place t) g.0 f
    (subst (λ (o : Option Step). IsPlainStep scene (seen_in new) o (plain_answer place t)) (sym at)
    (l, refl))

does_fits : (scene : Scene) (n : ℕ) (p : Program) (s : State) (h : List Answer) (i : ℕ)
    (o : Option ScriptFile) (d : Deed) → slice_get scene.script_files i ≡ o
    → step_at p (position (mode_of scene) p h).call_state ≡ Some (Does i d)
    → ChecksFit scene p (seen_in s) h
    → FitsAfter scene p h (step_does scene n p s (position (mode_of scene) p h) i o d).state
    (does_answers scene s i o d)
does_fits scene n p s h i None d q at f = f
does_fits scene n p s h i (Some script_file) d q at f =
    does_told scene p s (step_does scene n p s (position (mode_of scene) p h) i
    (Some script_file) d).state h i d (length (journal_at s i))
    (outcome (inode_of scene script_file) s.list d (newest_first (journal_at s i)))
    (does_grows scene n p s (position (mode_of scene) p h) i (Some script_file) d) at
    (slice_get_within scene.script_files i script_file q) f

check_told : (scene : Scene) (p : Program) (s new : State) (h : List Answer) (i file : ℕ)
    (func : Func) (mask : ℕ) (script_file : ScriptFile) (o : Option Told) → Grows s new
    → new.added ≡ s.added → step_at p (position (mode_of scene) p h).call_state
    ≡ Some (Checks i file func mask) → slice_get scene.script_files i ≡ Some script_file
    → i < length s.journals
    → ChecksFit scene p (seen_in s) h
    → FitsAfter scene p h new (answers_told (length (journal_at s i))
    (decided (rules_with scene s.added) p.cred script_file.place
    (metadata (newest_first (journal_at s i))) func mask) (length (rules_with scene s.added)) o)
check_told scene p s new h i file func mask script_file None g e at q l f =
    law_fits_with_more scene p (seen_in s) (seen_in new) h g.0 f
check_told scene p s new h i file func mask script_file (Some t) g e at q l f =
    law_fits_by_check scene p (seen_in s) (seen_in new) h _ i file func mask g.0 f at (record {
      script_file = script_file;
      before = journal_at s i;
      at = q;
      journal = g.0.journals i (journal_at s i) (slice_get-get_or s.journals i [] l);
      place = refl;
      rules = ap (λ (x : List RuleEntry). length (rules_with scene x)) (sym e);
      action = ap (λ (x : List RuleEntry). decided (rules_with scene x) p.cred script_file.place
          (metadata (newest_first (journal_at s i))) func mask) (sym e);
    })

check_fits : (scene : Scene) (n : ℕ) (p : Program) (s : State) (h : List Answer) (i file : ℕ)
    (func : Func) (mask : ℕ) (o : Option ScriptFile) → slice_get scene.script_files i ≡ o
    → step_at p (position (mode_of scene) p h).call_state ≡ Some (Checks i file func mask)
    → length s.journals ≡ length scene.script_files → ChecksFit scene p (seen_in s) h
    → FitsAfter scene p h (step_check scene n p s
    (position (mode_of scene) p h) i o file func mask).state
    (check_answers scene p s i o file func mask)
check_fits scene n p s h i file func mask None q at even f = f
check_fits scene n p s h i file func mask (Some script_file) q at even f =
    let within : i < length scene.script_files =
    slice_get_within scene.script_files i script_file q in
    check_told scene p s (step_check scene n p s (position (mode_of scene) p h) i
    (Some script_file) file func mask).state h i file func mask script_file
    (outcome (inode_of scene script_file) s.list
    (deed.Check file func (decided (rules_with scene s.added) p.cred script_file.place
    (metadata (newest_first (journal_at s i))) func mask) (length (rules_with scene s.added)))
    (newest_first (journal_at s i)))
    (check_grows scene n p s (position (mode_of scene) p h) i
    (Some script_file) file func mask) refl at q (omega arith) f

signal_fits : (scene : Scene) (p : Program) (s new : State) (h : List Answer) (d : Deed)
    (place : ℕ) → Grows s new
    → step_at p (position (mode_of scene) p h).call_state ≡ Some (Signals d)
    → ChecksFit scene p (seen_in s) h
    → (e : List Event) → FitsAfter scene p h new
    (answers_told place no_action 0 (semaphore_says e d))
signal_fits scene p s new h d place g at f e = by d refl where
  none : FitsAfter scene p h new []
  none = law_fits_with_more scene p (seen_in s) (seen_in new) h g.0 f

  done : FitsAfter scene p h new (plain_answer place told.Done ∷ [])
  done =
      law_fits_by_step scene p (seen_in s) (seen_in new) h (plain_answer place told.Done) g.0 f
      (subst (λ (o : Option Step). IsPlainStep scene (seen_in new) o
      (plain_answer place told.Done)) (sym at) refl)

  wait : (b : Bool) → FitsAfter scene p h new
      (answers_told place no_action 0 (cond b (Some told.Done) None))
  wait true = done
  wait false = none

  by : (c : Deed) → d ≡ c → FitsAfter scene p h new
      (answers_told place no_action 0 (semaphore_says e c))
  by (deed.Post sem) q = done
  by (deed.Wait sem) q = wait (nat_lt 0 (left sem e))
  by c q = none

step_fits : (scene : Scene) (n : ℕ) (p : Program) (s : State) (h : List Answer) (o : Option Step)
    → step_at p (position (mode_of scene) p h).call_state ≡ o
    → length s.journals ≡ length scene.script_files → ChecksFit scene p (seen_in s) h
    → FitsAfter scene p h (step_due scene n p s (position (mode_of scene) p h) o).state
    (answers_to scene p s o)
step_fits scene n p s h None at even f = f
step_fits scene n p s h (Some Nothing) at even f =
    law_fits_by_step scene p (seen_in s) (seen_in s) h (plain_answer 0 told.Nothing)
    (same_grows s).0 f
    (subst (λ (o : Option Step). IsPlainStep scene (seen_in s) o (plain_answer 0 told.Nothing))
    (sym at) refl)
step_fits scene n p s h (Some (Does i d)) at even f =
    does_fits scene n p s h i (slice_get scene.script_files i) d refl at f
step_fits scene n p s h (Some (Checks i file func mask)) at even f =
    check_fits scene n p s h i file func mask (slice_get scene.script_files i) refl at even f
step_fits scene n p s h (Some (Signals d)) at even f =
    signal_fits scene p s (step_due scene n p s (position (mode_of scene) p h)
    (Some (Signals d))).state h d (length s.signals)
    (step_grows scene n p s (position (mode_of scene) p h) (Some (Signals d))) at f
    (newest_first s.signals)
step_fits scene n p s h (Some (Appends rule)) at even f =
    let r : RuleEntry =
    record { who = who_at n p (position (mode_of scene) p h).call_state; rule = rule } in
    law_fits_by_step scene p (seen_in s) (record {
      journals = s.journals;
      added = s.added
          ++ record {
            who = who_at n p (position (mode_of scene) p h).call_state;
            rule = rule;
          } ∷ [];
    }) h
    (plain_answer (length s.added) told.Done)
    (step_grows scene n p s (position (mode_of scene) p h) (Some (Appends rule))).0 f
    (subst (λ (o : Option Step). IsPlainStep scene
    (record {
      journals = s.journals;
      added = s.added
          ++ record {
            who = who_at n p (position (mode_of scene) p h).call_state;
            rule = rule;
          } ∷ [];
    }) o
    (plain_answer (length s.added) told.Done)) (sym at) (
      refl,
      omega (
        arith,
        length-append s.added
            (record {
              who = who_at n p (position (mode_of scene) p h).call_state;
              rule = rule;
            } ∷ []),
      ),
    ))

pub law_step_fits : StepFits
law_step_fits scene n p s h even f =
    step_fits scene n p s h (step_at p (position (mode_of scene) p h).call_state) refl even f

-- ---- the rules along the journals

event_rises : (scene : Scene) (s : State) (i : ℕ) (inode : Inode) (who : Who) (d : Deed)
    (o : Option Told) → i < length s.journals
    → CountsAll (length scene.rules + length s.added) d → ScriptFilesRise scene s
    → ScriptFilesRise scene (state_on s i inode who d o)
event_rises scene s i inode who d o l c r k journal h =
    at (set_cases s.journals i k (journal_at s i ++ made who d o) journal h) where
      at : ((k ≡ i) × (journal ≡ journal_at s i ++ made who d o))
          ⊎ (slice_get s.journals k ≡ Some journal)
          → ScriptFileRules (length scene.rules) journal s.added
      at (inl e) =
          subst (λ (x : List Event). ScriptFileRules (length scene.rules) x s.added) (sym e.1)
          (law_rise_by_outcome (length scene.rules) (journal_at s i) s.added s.added who d o
          (prefix_refl s.added) (r i (journal_at s i) (slice_get-get_or s.journals i [] l)) c)
      at (inr g) = r k journal g

-- the step isn't a check
abbrev NoCheck : Step → Type 0
NoCheck (Does i d) = (count : ℕ) → CountsAll count d
NoCheck _ = Unit {0}

deed_no_check : (admin : Bool) (c : Call) (file count : ℕ) → CountsAll count (deed_of admin c file)
deed_no_check admin (call.Write fd from bytes) file count = tt
deed_no_check admin (call.SetAttr inode name value) file count = tt
deed_no_check admin (call.SetMeta inode change) file count = tt
deed_no_check admin c file count = tt

plain_no_check : (admin : Bool) (c : Call) → NoCheck (plain_step admin c)
plain_no_check admin (call.Post sem) = tt
plain_no_check admin (call.Wait sem) = tt
plain_no_check true (call.AddRule rule) = tt
plain_no_check false (call.AddRule rule) = tt
plain_no_check admin c = tt

step_no_check : (admin : Bool) (c : Call) (g : Progress) (k : Ask) → NoCheck (step_by admin c g k)
step_no_check admin c g ask.Count = λ count. tt
step_no_check admin c g (ask.Check func mask) = tt
step_no_check admin c g (ask.Take slot) = λ count. tt
step_no_check admin c g ask.Chunk = λ count. tt
step_no_check admin c g ask.Finish = λ count. tt
step_no_check admin c g (ask.Read from len) = λ count. tt
step_no_check admin c g ask.Write = deed_no_check admin c g.file
step_no_check admin c g (ask.Trunc len) = λ count. tt
step_no_check admin c g ask.SetAttr = deed_no_check admin c g.file
step_no_check admin c g ask.SetMeta = deed_no_check admin c g.file
step_no_check admin c g ask.Close = λ count. tt
step_no_check admin c g ask.CloseTake = λ count. tt
step_no_check admin c g ask.CloseChunk = λ count. tt
step_no_check admin c g ask.CloseFinish = λ count. tt
step_no_check admin c g ask.Plain = plain_no_check admin c

no_check : (p : Program) (m : CallState) (o : Option Call) (i : ℕ) (d : Deed)
    → step_in p o m ≡ Some (Does i d) → NoCheck (Does i d)
no_check p m None i d h = absurd (cc)
no_check p m (Some c) i d h =
    subst NoCheck (same_Some (ask_of p.cred.admin c m) (Does i d) h)
    (step_no_check p.cred.admin c (progress_of p.cred.admin c m)
    (progress_of p.cred.admin c m).due.ask)

does_rises : (scene : Scene) (n : ℕ) (p : Program) (s : State) (t : Position) (i : ℕ)
    (o : Option ScriptFile) (d : Deed) → slice_get scene.script_files i ≡ o
    → length s.journals ≡ length scene.script_files → ((count : ℕ) → CountsAll count d)
    → ScriptFilesRise scene s → ScriptFilesRise scene (step_does scene n p s t i o d).state
does_rises scene n p s t i None d q even c r = r
does_rises scene n p s t i (Some script_file) d q even c r =
    let within : i < length scene.script_files =
    slice_get_within scene.script_files i script_file q in
    event_rises scene s i (inode_of scene script_file) (who_at n p t.call_state) d
    (outcome (inode_of scene script_file) s.list d (newest_first (journal_at s i))) (omega arith)
    (c (length scene.rules + length s.added)) r

check_rises : (scene : Scene) (n : ℕ) (p : Program) (s : State) (t : Position) (i : ℕ)
    (o : Option ScriptFile) (file : ℕ) (func : Func) (mask : ℕ) → slice_get scene.script_files i ≡ o
    → length s.journals ≡ length scene.script_files → ScriptFilesRise scene s
    → ScriptFilesRise scene (step_check scene n p s t i o file func mask).state
check_rises scene n p s t i None file func mask q even r = r
check_rises scene n p s t i (Some script_file) file func mask q even r =
    let within : i < length scene.script_files =
    slice_get_within scene.script_files i script_file q in
    event_rises scene s i (inode_of scene script_file) (who_at n p t.call_state)
    (deed.Check file func (decided (rules_with scene s.added) p.cred script_file.place
    (metadata (newest_first (journal_at s i))) func mask) (length (rules_with scene s.added)))
    (outcome (inode_of scene script_file) s.list
    (deed.Check file func (decided (rules_with scene s.added) p.cred script_file.place
    (metadata (newest_first (journal_at s i))) func mask) (length (rules_with scene s.added)))
    (newest_first (journal_at s i)))
    (omega arith) (rules_count scene s.added) r

step_rises : (scene : Scene) (n : ℕ) (p : Program) (s : State) (t : Position) (o : Option Step)
    → step_at p t.call_state ≡ o → length s.journals ≡ length scene.script_files
    → ScriptFilesRise scene s → ScriptFilesRise scene (step_due scene n p s t o).state
step_rises scene n p s t None at even r = r
step_rises scene n p s t (Some Nothing) at even r = r
step_rises scene n p s t (Some (Does i d)) at even r =
    does_rises scene n p s t i (slice_get scene.script_files i) d refl even
    (no_check p t.call_state (call_at p t.call_state) i d at) r
step_rises scene n p s t (Some (Checks i file func mask)) at even r =
    check_rises scene n p s t i (slice_get scene.script_files i) file func mask refl even r
step_rises scene n p s t (Some (Signals d)) at even r = r
step_rises scene n p s t (Some (Appends rule)) at even r = λ k journal h.
    law_rise_by_look (length scene.rules) journal s.added
    (s.added ++ record { who = who_at n p t.call_state; rule = rule } ∷ [])
    (prefix_append s.added (record {
      who = who_at n p t.call_state;
      rule = rule;
    } ∷ [])) (r k journal h)

pub law_step_rises : StepRises
law_step_rises scene n p s t even r = step_rises scene n p s t (step_at p t.call_state) refl even r

-- ---- a turn of a moment

after_go : (scene : Scene) (n : ℕ) (p : Program) (s : State) (t : Position)
    → length s.journals ≡ length scene.script_files → HasChecks scene s p t
    → HasChecks scene (step_task scene n p s t).state p (step_task scene n p s t).position
after_go scene n p s t even c =
    subst (λ (x : Position). HasChecks scene (step_task scene n p s x).state p
    (step_task scene n p s x).position) c.stands (record {
      history = history_after scene p s c.history;
      stands = sym (law_step_resumes scene n p s c.history);
      fit = law_step_fits scene n p s c.history even c.fit;
    })

after_other : (scene : Scene) (s new : State) (p : Program) (t : Position)
    → SeesMore (seen_in s) (seen_in new) → HasChecks scene s p t → HasChecks scene new p t
after_other scene s new p t m c =
    record {
      history = c.history;
      stands = c.stands;
      fit = law_fits_with_more scene p (seen_in s) (seen_in new) c.history m c.fit;
    }

turned_fits : (scene : Scene) (m : Moment) (n : ℕ) (o : Option Program) (q : Option Position)
    → slice_get scene.programs n ≡ o → slice_get m.positions n ≡ q → IsFit scene m
    → IsFit scene (turned scene m n o q)
turned_fits scene m n None q e g f = f
turned_fits scene m n (Some p) None e g f = f
turned_fits scene m n (Some p) (Some t) e g f = record {
  even = (law_step_grows scene n p m.state t).1 ∙ f.even;
  rise = law_step_rises scene n p m.state t f.even f.rise;
  tasks = λ k p2 t2 hp ht. at k p2 t2 hp (set_cases m.positions n k
      (step_task scene n p m.state t).position t2 ht);
} where
  at : (k : ℕ) (p2 : Program) (t2 : Position) → slice_get scene.programs k ≡ Some p2
      → ((k ≡ n) × (t2 ≡ (step_task scene n p m.state t).position))
      ⊎ (slice_get m.positions k ≡ Some t2)
      → HasChecks scene (step_task scene n p m.state t).state p2 t2
  at k p2 t2 hp (inl x) =
      let same : p ≡ p2 = same_Some p p2 (sym e ∙ ap (slice_get scene.programs) (sym x.0) ∙ hp) in
      subst (λ (y : Position). HasChecks scene (step_task scene n p m.state t).state p2 y) (sym x.1)
      (subst (λ (y : Program). HasChecks scene (step_task scene n p m.state t).state y
      (step_task scene n p m.state t).position) same
      (after_go scene n p m.state t f.even (f.tasks n p t e g)))
  at k p2 t2 hp (inr x) =
      after_other scene m.state (step_task scene n p m.state t).state p2 t2
      (law_step_grows scene n p m.state t).0 (f.tasks k p2 t2 hp x)

pub law_turn_fits : TurnFits
law_turn_fits scene m n f =
    turned_fits scene m n (slice_get scene.programs n) (slice_get m.positions n) refl refl f

turns_fit : (scene : Scene) (m : Moment) (turns : List ℕ) → IsFit scene m
    → IsFit scene (turns_of scene m turns)
turns_fit scene m [] f = f
turns_fit scene m (n ∷ ns) f = turns_fit scene (turn scene m n) ns (law_turn_fits scene m n f)

-- ---- the start and the end

pub get_map : {A B : Type 0} (f : A → B) (xs : List A) (i : ℕ) (y : B)
    → slice_get (map f xs) i ≡ Some y → (x : A) × (slice_get xs i ≡ Some x) × (f x ≡ y)
get_map f [] i y h = absurd (cc)
get_map f (x ∷ xs) zero y h = (x, refl, same_Some (f x) y h)
get_map f (x ∷ xs) (suc i) y h = get_map f xs i y h

start_fits : (scene : Scene) → IsFit scene (start_of scene)
start_fits scene = record {
  even = length-map scene.script_files newborn;
  rise = λ i journal h.
      let x = get_map newborn scene.script_files i journal h in
      subst (λ (l : List Event). ScriptFileRules (length scene.rules) l []) x.2
      (law_rise_at_first (length scene.rules)
      (event nobody deed.Birth (told.Image x.0.birth)) [] refl);
  tasks = λ n p t hp ht.
      let x = get_map (λ (p : Program). start) scene.programs n t ht in
      record {
        history = [];
        stands = x.2;
        fit = law_fits_at_first scene p
            (seen_in (start_of scene).state);
      };
}

pub law_turns_are_fit : TurnsAreFit
law_turns_are_fit scene turns = turns_fit scene (start_of scene) turns (start_fits scene)

pub run_sees : (m : Moment) → SeesMore (seen_in m.state) (seen_of (run_at m))
run_sees m = record { journals = journals_same m.state.journals; added = prefix_refl m.state.added }

suited_at : (scene : Scene) (m : Moment) → IsFit scene m → (n : ℕ) (p : Program) (t : Position)
    → slice_get scene.programs n ≡ Some p → slice_get m.positions n ≡ Some t → HasSuited scene m p t
suited_at scene m f n p t e g =
    let c : HasChecks scene m.state p t = f.tasks n p t e g in
    record {
      history = c.history;
      stands = c.stands;
      suited = law_fits_are_suited scene p (seen_in m.state) (run_at m) c.history
          (run_sees m) c.fit;
    }

pub law_fit_is_suited : FitIsSuited
law_fit_is_suited scene m f = (
  suited_at scene m f,
  λ k d l. (f.rise k (get_or m.state.journals k d) (slice_get-get_or m.state.journals k d l)).rise,
)
