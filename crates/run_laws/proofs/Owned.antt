-- The events and rules of a turn belong to its task, and to no other.
use Rattle.std.proofs.Common.{◌≡◌, ◌≢◌, ℕ, zero, suc, ◌+◌, ◌<◌, ◌≤◌, List, [], ◌∷◌, ◌++◌, length, map, Option, Some, None, refl, sym, ◌∙◌, ap, subst, arith, inl, inr}
use Rattle.std.specs.Prelude.{◌⊎◌, ◌==◌, All, Bool, true, false, cond, slice_get, slice_set}
use Rattle.std.proofs.lemmas.Bool.{eq-eqb, ne_eqb}
use Rattle.std.proofs.lemmas.List.{append-nil, length-map, map-append}
use Rattle.std.proofs.lemmas.List.Elements.{All-push}
use Rattle.std.proofs.lemmas.Option.{same_Some, slice_get_within, slice_get-get_or}
use Rattle.grow_list.proofs.Counting.{entries-other, entries-same}
use Rattle.grow_list.specs.Entries.{entries_of}
use Rattle.inode_events.specs.meta.declared.step.Who.{Who}
use Rattle.policy_rules.specs.declared.access.Action.{Action}
use Rattle.policy_rules.specs.declared.rule.Func.{Func}
use Rattle.inode_events.specs.templates.declared.entry.Entry.{Entry}
use Rattle.inode_events.specs.Asked.{entered, made, outcome}
use Rattle.inode_events.specs.Callers.{caller_in, caller_of}
use Rattle.inode_events.specs.Checks.{no_action}
use Rattle.inode_events.specs.Inode.{Inode}
use Rattle.inode_events.specs.NewestFirst.{newest_first}
use Rattle.inode_events.specs.Semaphores.{semaphore_says}
use Rattle.inode_events.specs.State.{metadata}
use Rattle.inode_events.specs.declared.deed.Deed.{Deed}
use Rattle.inode_events.specs.declared.deed.Deed.TheVariants as deed
use Rattle.inode_events.specs.declared.told.Event.{Event}
use Rattle.inode_events.specs.declared.told.Told.{Told}
use Rattle.inode_events.specs.declared.told.Told.TheVariants as told
use Rattle.run_model.specs.steps.CallState.{CallState, Step}
use Rattle.run_model.specs.steps.CallState.{Nothing, Does, Checks, Signals, Appends}
use Rattle.run_model.specs.steps.declared.call.Call.{Call}
use Rattle.run_model.specs.History.{Answer, Position, call_at, event, event_in, own, own_rules, plain_answer, position, rule_in, step_at, who_at, who_in}
use Rattle.run_model.specs.Scene.{Program, Scene, ScriptFile, decided, inode_of, mode_of, rules_with}
use Rattle.run_model.specs.Served.{events_of, rules_of}
use Rattle.run_model.specs.Turns.{State, journal_at, state_on, step_check, step_does, step_due}
use Rattle.run_model.specs.rules.declared.cell.RuleEntry.{RuleEntry}
use Rattle.run_laws.specs.Histories.{AreSigned, Owns, StepLeaves, StepOwns, StepSigns}
use Rattle.run_laws.specs.Moments.{answers_to, answers_told, check_answers, does_answers}

-- ---- a journal with one more event

pub set_parts : {A : Type 0} (xs : List A) (i k : ℕ) (x y : A)
    → slice_get (slice_set xs i x) k ≡ Some y → i < length xs
    → ((k ≡ i) × (y ≡ x)) ⊎ ((i ≢ k) × (slice_get xs k ≡ Some y))
set_parts [] i k x y h l = absurd (omega arith)
set_parts (z ∷ xs) zero zero x y h l = inl (refl, sym (same_Some x y h))
set_parts (z ∷ xs) zero (suc k) x y h l = inr (λ e. absurd (omega arith), h)
set_parts (z ∷ xs) (suc i) zero x y h l = inr (λ e. absurd (omega arith), h)
set_parts (z ∷ xs) (suc i) (suc k) x y h l = at (set_parts xs i k x y h (omega arith)) where
  at : ((k ≡ i) × (y ≡ x)) ⊎ ((i ≢ k) × (slice_get xs k ≡ Some y))
      → ((suc k ≡ suc i) × (y ≡ x)) ⊎ ((suc i ≢ suc k) × (slice_get xs k ≡ Some y))
  at (inl e) = inl (ap suc e.0, e.1)
  at (inr e) = inr (λ q. e.0 (omega arith), e.1)

-- no step of a task is a birth
abbrev NoBirth : Deed → Option Told → Type 0
NoBirth deed.Birth (Some t) = ⊥
NoBirth _ _ = Unit {0}

no_birth : (inode : Inode) (list : List Entry) (d : Deed) (p : List Event)
    → NoBirth d (outcome inode list d p)
no_birth inode list deed.Birth p = tt
no_birth inode list d p = tt

told_caller : (task : ℕ) (d : Deed) (t : Told) → NoBirth d (Some t) → caller_in task d ≡ task + 1
told_caller task deed.Birth t h = absurd h
told_caller task d t h = refl

caller_below : (task : ℕ) (d : Deed) → caller_in task d ≤ task + 1
caller_below task deed.Birth = omega arith
caller_below task d = omega arith

who_task : (n : ℕ) (p : Program) (o : Option Call) (m : CallState) → (who_in n p o m).task ≡ n
who_task n p None m = refl
who_task n p (Some c) m = refl

events_same : (n : ℕ) (journal : List Event) (e : Event) → caller_of e ≡ n + 1
    → events_of n (journal ++ e ∷ []) ≡ events_of n journal ++ (length journal, e) ∷ []
events_same n journal e c =
    ap (λ (ms : List ℕ). entries_of (n + 1) ms (journal ++ e ∷ []))
    (map-append caller_of journal (e ∷ []) ∙ ap (λ (k : ℕ). map caller_of journal ++ k ∷ []) c)
    ∙ entries-same (n + 1) (map caller_of journal) journal e (length-map journal caller_of)

events_other : (n : ℕ) (journal : List Event) (e : Event) → n + 1 ≢ caller_of e
    → events_of n (journal ++ e ∷ []) ≡ events_of n journal
events_other n journal e c =
    ap (λ (ms : List ℕ). entries_of (n + 1) ms (journal ++ e ∷ []))
    (map-append caller_of journal (e ∷ []))
    ∙ entries-other (n + 1) (caller_of e) (map caller_of journal) journal e c
    (length-map journal caller_of)

made_same : (n : ℕ) (journal : List Event) (who : Who) (d : Deed) (o : Option Told) → who.task ≡ n
    → NoBirth d o
    → events_of n (journal ++ made who d o) ≡ events_of n journal
    ++ entered (length journal) who d o
made_same n journal who d None w b =
    ap (events_of n) (append-nil journal) ∙ sym (append-nil (events_of n journal))
made_same n journal who d (Some t) w b =
    events_same n journal (event who d t) (told_caller who.task d t b ∙ ap (λ (k : ℕ). k + 1) w)

made_other : (n k : ℕ) (journal : List Event) (who : Who) (d : Deed) (o : Option Told)
    → who.task ≡ n → k ≢ n → NoBirth d o
    → events_of k (journal ++ made who d o) ≡ events_of k journal
made_other n k journal who d None w ne b = ap (events_of k) (append-nil journal)
made_other n k journal who d (Some t) w ne b =
    let c : caller_in who.task d ≡ n + 1 = told_caller who.task d t b ∙ ap (λ (k : ℕ). k + 1) w in
    events_other k journal (event who d t) (λ x. ne (same x c)) where
      same : k + 1 ≡ caller_in who.task d → caller_in who.task d ≡ n + 1 → k ≡ n
      same x c = omega arith

-- ---- the journals after an event

abbrev EventsAre : ℕ → State → (ℕ → List (ℕ × Event)) → Type 0
EventsAre n s xs =
    (i : ℕ) (journal : List Event) → slice_get s.journals i ≡ Some journal
    → events_of n journal ≡ xs i

abbrev placed_in : ℕ → ℕ → List (ℕ × Event) → List (ℕ × Event)
placed_in i j xs = cond (i == j) xs []

mine_after : (n : ℕ) (s : State) (i : ℕ) (inode : Inode) (who : Who) (d : Deed) (o : Option Told)
    (xs : ℕ → List (ℕ × Event)) → i < length s.journals → who.task ≡ n → NoBirth d o
    → EventsAre n s xs → EventsAre n (state_on s i inode who d o)
    (λ j. xs j ++ placed_in i j (entered (length (journal_at s i)) who d o))
mine_after n s i inode who d o xs l w b h j journal g =
    at (set_parts s.journals i j (journal_at s i ++ made who d o) journal g l) where
      at : ((j ≡ i) × (journal ≡ journal_at s i ++ made who d o))
          ⊎ ((i ≢ j) × (slice_get s.journals j ≡ Some journal))
          → events_of n journal ≡ xs j ++ placed_in i j (entered (length (journal_at s i)) who d o)
      at (inl e) =
          ap (events_of n) e.1
          ∙ made_same n (journal_at s i) who d o w b
          ∙ ap (λ (l : List (ℕ × Event)). l ++ entered (length (journal_at s i)) who d o)
          (h i (journal_at s i) (slice_get-get_or s.journals i [] l))
          ∙ ap (λ (b : Bool). xs i ++ cond b (entered (length (journal_at s i)) who d o) [])
          (sym (eq-eqb i i refl))
          ∙ ap (λ (k : ℕ). xs k ++ placed_in i k (entered (length (journal_at s i)) who d o))
          (sym e.0)
      at (inr e) =
          h j journal e.1 ∙ sym (append-nil (xs j))
          ∙ ap (λ (b : Bool). xs j ++ cond b (entered (length (journal_at s i)) who d o) [])
          (sym (ne_eqb i j e.0))

others_after : (n k : ℕ) (s : State) (i : ℕ) (inode : Inode) (who : Who) (d : Deed)
    (o : Option Told) (xs : ℕ → List (ℕ × Event)) → i < length s.journals → who.task ≡ n → k ≢ n
    → NoBirth d o
    → EventsAre k s xs → EventsAre k (state_on s i inode who d o) xs
others_after n k s i inode who d o xs l w ne b h j journal g =
    at (set_parts s.journals i j (journal_at s i ++ made who d o) journal g l) where
      at : ((j ≡ i) × (journal ≡ journal_at s i ++ made who d o))
          ⊎ ((i ≢ j) × (slice_get s.journals j ≡ Some journal)) → events_of k journal ≡ xs j
      at (inl e) =
          ap (events_of k) e.1 ∙ made_other n k (journal_at s i) who d o w ne b
          ∙ h i (journal_at s i) (slice_get-get_or s.journals i [] l) ∙ ap xs (sym e.0)
      at (inr e) = h j journal e.1

-- ---- the history after an event

cond_none : (b : Bool) (xs : List (ℕ × Event)) → xs ≡ [] → cond b xs [] ≡ xs
cond_none true xs e = refl
cond_none false xs e = sym e

own_does : (scene : Scene) (n : ℕ) (p : Program) (h : List Answer) (i j : ℕ) (d : Deed) (place : ℕ)
    (o : Option Told) → step_at p (position (mode_of scene) p h).call_state ≡ Some (Does i d)
    → own (mode_of scene) n p j h ++ placed_in i j
    (entered place (who_at n p (position (mode_of scene) p h).call_state) d o)
    ≡ own (mode_of scene) n p j (answers_told place no_action 0 o ++ h)
own_does scene n p h i j d place None at =
    ap (λ (l : List (ℕ × Event)). own (mode_of scene) n p j h ++ l) (cond_none (i == j) [] refl)
    ∙ append-nil (own (mode_of scene) n p j h)
own_does scene n p h i j d place (Some t) at =
    ap (λ (o : Option Step). own (mode_of scene) n p j h
    ++ event_in j (who_at n p (position (mode_of scene) p h).call_state) o (plain_answer place t))
    (sym at)

own_checks : (scene : Scene) (n : ℕ) (p : Program) (h : List Answer) (i j file : ℕ) (func : Func)
    (mask place : ℕ) (action : Action) (rules : ℕ) (o : Option Told)
    → step_at p (position (mode_of scene) p h).call_state ≡ Some (Checks i file func mask)
    → own (mode_of scene) n p j h ++ placed_in i j
    (entered place (who_at n p (position (mode_of scene) p h).call_state)
    (deed.Check file func action rules) o)
    ≡ own (mode_of scene) n p j (answers_told place action rules o ++ h)
own_checks scene n p h i j file func mask place action rules None at =
    ap (λ (l : List (ℕ × Event)). own (mode_of scene) n p j h ++ l) (cond_none (i == j) [] refl)
    ∙ append-nil (own (mode_of scene) n p j h)
own_checks scene n p h i j file func mask place action rules (Some t) at =
    ap (λ (o : Option Step). own (mode_of scene) n p j h
    ++ event_in j (who_at n p (position (mode_of scene) p h).call_state) o
    (record { place = place; told = t; action = action; rules = rules })) (sym at)

-- the step makes no event
abbrev IsQuiet : Step → Type 0
IsQuiet (Does i d) = ⊥
IsQuiet (Checks i file func mask) = ⊥
IsQuiet _ = Unit {0}

abbrev IsRuleless : Step → Type 0
IsRuleless (Appends rule) = ⊥
IsRuleless _ = Unit {0}

quiet_step : (j : ℕ) (who : Who) (x : Step) (a : Answer) → IsQuiet x
    → [] ≡ event_in j who (Some x) a
quiet_step j who (Does i d) a q = absurd q
quiet_step j who (Checks i file func mask) a q = absurd q
quiet_step j who x a q = refl

ruleless_step : (who : Who) (x : Step) (a : Answer) → IsRuleless x → [] ≡ rule_in who (Some x) a
ruleless_step who (Appends rule) a q = absurd q
ruleless_step who x a q = refl

own_quiet : (scene : Scene) (n : ℕ) (p : Program) (h : List Answer) (j : ℕ) (x : Step) (a : Answer)
    → step_at p (position (mode_of scene) p h).call_state ≡ Some x → IsQuiet x
    → own (mode_of scene) n p j h ≡ own (mode_of scene) n p j (a ∷ h)
own_quiet scene n p h j x a at q =
    sym (append-nil (own (mode_of scene) n p j h))
    ∙ ap (λ (l : List (ℕ × Event)). own (mode_of scene) n p j h ++ l)
    (quiet_step j (who_at n p (position (mode_of scene) p h).call_state) x a q)
    ∙ ap (λ (o : Option Step). own (mode_of scene) n p j h
    ++ event_in j (who_at n p (position (mode_of scene) p h).call_state) o a) (sym at)

rules_quiet : (scene : Scene) (n : ℕ) (p : Program) (h : List Answer) (x : Step) (a : Answer)
    → step_at p (position (mode_of scene) p h).call_state ≡ Some x → IsRuleless x
    → own_rules (mode_of scene) n p h ≡ own_rules (mode_of scene) n p (a ∷ h)
rules_quiet scene n p h x a at q =
    sym (append-nil (own_rules (mode_of scene) n p h))
    ∙ ap (λ (l : List (ℕ × RuleEntry)). own_rules (mode_of scene) n p h ++ l)
    (ruleless_step (who_at n p (position (mode_of scene) p h).call_state) x a q)
    ∙ ap (λ (o : Option Step). own_rules (mode_of scene) n p h
    ++ rule_in (who_at n p (position (mode_of scene) p h).call_state) o a) (sym at)

rules_told : (scene : Scene) (n : ℕ) (p : Program) (h : List Answer) (x : Step) (place : ℕ)
    (action : Action) (rules : ℕ) (o : Option Told)
    → step_at p (position (mode_of scene) p h).call_state ≡ Some x → IsRuleless x
    → own_rules (mode_of scene) n p h ≡ own_rules (mode_of scene) n p
    (answers_told place action rules o ++ h)
rules_told scene n p h x place action rules None at q = refl
rules_told scene n p h x place action rules (Some t) at q =
    rules_quiet scene n p h x (record {
      place = place;
      told = t;
      action = action;
      rules = rules;
    }) at q

own_told : (scene : Scene) (n : ℕ) (p : Program) (h : List Answer) (j : ℕ) (x : Step) (place : ℕ)
    (action : Action) (rules : ℕ) (o : Option Told)
    → step_at p (position (mode_of scene) p h).call_state ≡ Some x → IsQuiet x
    → own (mode_of scene) n p j h ≡ own (mode_of scene) n p j
    (answers_told place action rules o ++ h)
own_told scene n p h j x place action rules None at q = refl
own_told scene n p h j x place action rules (Some t) at q =
    own_quiet scene n p h j x (record {
      place = place;
      told = t;
      action = action;
      rules = rules;
    }) at q

-- ---- a step of the task itself

does_owns : (scene : Scene) (n : ℕ) (p : Program) (s : State) (h : List Answer) (i : ℕ)
    (o : Option ScriptFile) (d : Deed) → slice_get scene.script_files i ≡ o
    → step_at p (position (mode_of scene) p h).call_state ≡ Some (Does i d)
    → length s.journals ≡ length scene.script_files → Owns scene n p s h
    → Owns scene n p (step_does scene n p s (position (mode_of scene) p h) i o d).state
    (does_answers scene s i o d ++ h)
does_owns scene n p s h i None d q at even w = w
does_owns scene n p s h i (Some script_file) d q at even w =
    let within : i < length scene.script_files =
    slice_get_within scene.script_files i script_file q in
    let inside : i < length s.journals = omega arith in
    record {
      events = λ j journal g.
          mine_after n s i (inode_of scene script_file)
          (who_at n p (position (mode_of scene) p h).call_state) d
          (outcome (inode_of scene script_file) s.list d (newest_first (journal_at s i)))
          (λ k. own (mode_of scene) n p k h) inside
          (who_task n p (call_at p (position (mode_of scene) p h).call_state)
          (position (mode_of scene) p h).call_state)
          (no_birth (inode_of scene script_file) s.list d (newest_first (journal_at s i))) w.events
          j journal g ∙ own_does scene n p h i j d (length (journal_at s i))
          (outcome (inode_of scene script_file) s.list d (newest_first (journal_at s i))) at;
      rules = w.rules ∙ rules_told scene n p h (Does i d) (length (journal_at s i)) no_action 0
          (outcome (inode_of scene script_file) s.list d (newest_first (journal_at s i))) at tt;
    }

check_owns : (scene : Scene) (n : ℕ) (p : Program) (s : State) (h : List Answer) (i file : ℕ)
    (func : Func) (mask : ℕ) (o : Option ScriptFile) → slice_get scene.script_files i ≡ o
    → step_at p (position (mode_of scene) p h).call_state ≡ Some (Checks i file func mask)
    → length s.journals ≡ length scene.script_files → Owns scene n p s h
    → Owns scene n p (step_check scene n p s (position (mode_of scene) p h) i o file
    func mask).state (check_answers scene p s i o file func mask ++ h)
check_owns scene n p s h i file func mask None q at even w = w
check_owns scene n p s h i file func mask (Some script_file) q at even w =
    let within : i < length scene.script_files =
    slice_get_within scene.script_files i script_file q in
    let inside : i < length s.journals = omega arith in
    by (decided (rules_with scene s.added) p.cred script_file.place
    (metadata (newest_first (journal_at s i))) func mask)
    (length (rules_with scene s.added)) inside where
      by : (action : Action) (rules : ℕ) → i < length s.journals
          → Owns scene n p (state_on s i (inode_of scene script_file)
          (who_at n p (position (mode_of scene) p h).call_state) (deed.Check file func action rules)
          (outcome (inode_of scene script_file) s.list (deed.Check file func action rules)
          (newest_first (journal_at s i))))
          (answers_told (length (journal_at s i)) action rules
          (outcome (inode_of scene script_file) s.list (deed.Check file func action rules)
          (newest_first (journal_at s i))) ++ h)
      by action rules inside = record {
        events = λ j journal g.
            mine_after n s i (inode_of scene script_file)
            (who_at n p (position (mode_of scene) p h).call_state)
            (deed.Check file func action rules)
            (outcome (inode_of scene script_file) s.list (deed.Check file func action rules)
            (newest_first (journal_at s i)))
            (λ k. own (mode_of scene) n p k h) inside
            (who_task n p (call_at p (position (mode_of scene) p h).call_state)
            (position (mode_of scene) p h).call_state)
            tt w.events j journal g
            ∙ own_checks scene n p h i j file func mask (length (journal_at s i)) action rules
            (outcome (inode_of scene script_file) s.list (deed.Check file func action rules)
            (newest_first (journal_at s i))) at;
        rules = w.rules ∙ rules_told scene n p h (Checks i file func mask)
            (length (journal_at s i)) action rules
            (outcome (inode_of scene script_file) s.list (deed.Check file func action rules)
            (newest_first (journal_at s i))) at tt;
      }

task_of : RuleEntry → ℕ
task_of r = r.who.task

rule_same : (n : ℕ) (added : List RuleEntry) (r : RuleEntry) → r.who.task ≡ n
    → rules_of n (added ++ r ∷ []) ≡ rules_of n added ++ (length added, r) ∷ []
rule_same n added r w =
    ap (λ (ms : List ℕ). entries_of n ms (added ++ r ∷ []))
    (map-append (λ (r : RuleEntry). r.who.task) added (r ∷ [])
    ∙ ap (λ (k : ℕ). map (λ (r : RuleEntry). r.who.task) added ++ k ∷ []) w)
    ∙ entries-same n (map (λ (r : RuleEntry). r.who.task) added) added r
    (length-map added (λ (r : RuleEntry). r.who.task))

rule_other : (n : ℕ) (added : List RuleEntry) (r : RuleEntry) → n ≢ r.who.task
    → rules_of n (added ++ r ∷ []) ≡ rules_of n added
rule_other n added r ne =
    ap (λ (ms : List ℕ). entries_of n ms (added ++ r ∷ []))
    (map-append (λ (r : RuleEntry). r.who.task) added (r ∷ []))
    ∙ entries-other n r.who.task (map (λ (r : RuleEntry). r.who.task) added) added r ne
    (length-map added (λ (r : RuleEntry). r.who.task))

step_owns : (scene : Scene) (n : ℕ) (p : Program) (s : State) (h : List Answer) (o : Option Step)
    → step_at p (position (mode_of scene) p h).call_state ≡ o
    → length s.journals ≡ length scene.script_files → Owns scene n p s h
    → Owns scene n p (step_due scene n p s (position (mode_of scene) p h) o).state
    (answers_to scene p s o ++ h)
step_owns scene n p s h None at even w = w
step_owns scene n p s h (Some Nothing) at even w = record {
  events = λ j journal g. w.events j journal g
      ∙ own_quiet scene n p h j Nothing (plain_answer 0 told.Nothing) at tt;
  rules = w.rules ∙ rules_quiet scene n p h Nothing (plain_answer 0 told.Nothing) at tt;
}
step_owns scene n p s h (Some (Does i d)) at even w =
    does_owns scene n p s h i (slice_get scene.script_files i) d refl at even w
step_owns scene n p s h (Some (Checks i file func mask)) at even w =
    check_owns scene n p s h i file func mask (slice_get scene.script_files i) refl at even w
step_owns scene n p s h (Some (Signals d)) at even w = record {
  events = λ j journal g. w.events j journal g
      ∙ own_told scene n p h j (Signals d) (length s.signals) no_action 0
      (semaphore_says (newest_first s.signals) d) at tt;
  rules = w.rules ∙ rules_told scene n p h (Signals d) (length s.signals) no_action 0
      (semaphore_says (newest_first s.signals) d) at tt;
}
step_owns scene n p s h (Some (Appends rule)) at even w = record {
  events = λ j journal g. w.events j journal g
      ∙ own_quiet scene n p h j (Appends rule) (plain_answer (length s.added) told.Done) at tt;
  rules =
      rule_same n s.added (record {
        who = who_at n p (position (mode_of scene) p h).call_state;
        rule = rule;
      }) (who_task n p (call_at p (position (mode_of scene) p h).call_state)
      (position (mode_of scene) p h).call_state)
      ∙ ap (λ (l : List (ℕ × RuleEntry)). l ++ (
        length s.added,
        record {
          who = who_at n p (position (mode_of scene) p h).call_state;
          rule = rule;
        },
      ) ∷ []) w.rules
      ∙ ap (λ (o : Option Step). own_rules (mode_of scene) n p h
      ++ rule_in (who_at n p (position (mode_of scene) p h).call_state) o
      (plain_answer (length s.added) told.Done)) (sym at);
}

pub law_step_owns : StepOwns
law_step_owns scene n p s h even w =
    step_owns scene n p s h (step_at p (position (mode_of scene) p h).call_state) refl even w

-- ---- a step of another task

event_leaves : (scene : Scene) (n k : ℕ) (p q : Program) (s : State) (t : Position)
    (h : List Answer) (i : ℕ) (inode : Inode) (d : Deed) → i < length s.journals → k ≢ n
    → Owns scene k q s h
    → Owns scene k q (state_on s i inode (who_at n p t.call_state) d
    (outcome inode s.list d (newest_first (journal_at s i)))) h
event_leaves scene n k p q s t h i inode d l ne w = record {
  events = others_after n k s i inode (who_at n p t.call_state) d
      (outcome inode s.list d (newest_first (journal_at s i))) (λ j. own (mode_of scene) k q j h) l
      (who_task n p (call_at p t.call_state) t.call_state) ne
      (no_birth inode s.list d (newest_first (journal_at s i))) w.events;
  rules = w.rules;
}

does_leaves : (scene : Scene) (n k : ℕ) (p q : Program) (s : State) (t : Position) (h : List Answer)
    (i : ℕ) (o : Option ScriptFile) (d : Deed) → slice_get scene.script_files i ≡ o
    → length s.journals ≡ length scene.script_files → k ≢ n → Owns scene k q s h
    → Owns scene k q (step_does scene n p s t i o d).state h
does_leaves scene n k p q s t h i None d e even ne w = w
does_leaves scene n k p q s t h i (Some script_file) d e even ne w =
    let within : i < length scene.script_files =
    slice_get_within scene.script_files i script_file e
    in event_leaves scene n k p q s t h i (inode_of scene script_file) d (omega arith) ne w

check_leaves : (scene : Scene) (n k : ℕ) (p q : Program) (s : State) (t : Position)
    (h : List Answer) (i file : ℕ) (func : Func) (mask : ℕ) (o : Option ScriptFile)
    → slice_get scene.script_files i ≡ o
    → length s.journals ≡ length scene.script_files → k ≢ n → Owns scene k q s h
    → Owns scene k q (step_check scene n p s t i o file func mask).state h
check_leaves scene n k p q s t h i file func mask None e even ne w = w
check_leaves scene n k p q s t h i file func mask (Some script_file) e even ne w =
    let within : i < length scene.script_files =
    slice_get_within scene.script_files i script_file e in
    event_leaves scene n k p q s t h i (inode_of scene script_file)
    (deed.Check file func (decided (rules_with scene s.added) p.cred script_file.place
    (metadata (newest_first (journal_at s i))) func mask) (length (rules_with scene s.added)))
    (omega arith) ne w

step_leaves : (scene : Scene) (n k : ℕ) (p q : Program) (s : State) (t : Position) (h : List Answer)
    (o : Option Step) → length s.journals ≡ length scene.script_files → k ≢ n → Owns scene k q s h
    → Owns scene k q (step_due scene n p s t o).state h
step_leaves scene n k p q s t h None even ne w = w
step_leaves scene n k p q s t h (Some Nothing) even ne w = w
step_leaves scene n k p q s t h (Some (Does i d)) even ne w =
    does_leaves scene n k p q s t h i (slice_get scene.script_files i) d refl even ne w
step_leaves scene n k p q s t h (Some (Checks i file func mask)) even ne w =
    check_leaves scene n k p q s t h i file func mask (slice_get scene.script_files i) refl even
    ne w
step_leaves scene n k p q s t h (Some (Signals d)) even ne w =
    record { events = w.events; rules = w.rules }
step_leaves scene n k p q s t h (Some (Appends rule)) even ne w = record {
  events = w.events;
  rules = rule_other k s.added (record { who = who_at n p t.call_state; rule = rule })
      (λ e. ne (e ∙ who_task n p (call_at p t.call_state) t.call_state)) ∙ w.rules;
}

pub law_step_leaves : StepLeaves
law_step_leaves scene n k p q s t h even ne w =
    step_leaves scene n k p q s t h (step_at p t.call_state) even ne w

-- ---- the owners of events and rules

abbrev ByTask : ℕ → Event → Type 0
ByTask count e = caller_of e ≤ count

made_signed : (count : ℕ) (journal : List Event) (who : Who) (d : Deed) (o : Option Told)
    → who.task < count → All (ByTask count) journal → All (ByTask count) (journal ++ made who d o)
made_signed count journal who d None l a = subst (All (ByTask count)) (sym (append-nil journal)) a
made_signed count journal who d (Some t) l a =
    let c : caller_in who.task d ≤ who.task + 1 =
    caller_below who.task d in All-push (ByTask count) journal (event who d t) a (omega arith)

event_signs : (n count : ℕ) (s : State) (i : ℕ) (inode : Inode) (who : Who) (d : Deed)
    (o : Option Told) → i < length s.journals → who.task < count → AreSigned count s
    → AreSigned count (state_on s i inode who d o)
event_signs n count s i inode who d o l w a = record {
  events = λ j journal g. at j journal (set_parts s.journals i j
      (journal_at s i ++ made who d o) journal g l);
  rules = a.rules;
} where
  at : (j : ℕ) (journal : List Event) → ((j ≡ i) × (journal ≡ journal_at s i ++ made who d o))
      ⊎ ((i ≢ j) × (slice_get s.journals j ≡ Some journal)) → All (ByTask count) journal
  at j journal (inl e) =
      subst (All (ByTask count)) (sym e.1) (made_signed count (journal_at s i) who d o w
      (a.events i (journal_at s i) (slice_get-get_or s.journals i [] l)))
  at j journal (inr e) = a.events j journal e.1

who_below : (n count : ℕ) (p : Program) (m : CallState) → n < count → (who_at n p m).task < count
who_below n count p m l = subst (λ (k : ℕ). k < count) (sym (who_task n p (call_at p m) m)) l

does_signs : (scene : Scene) (n count : ℕ) (p : Program) (s : State) (t : Position) (i : ℕ)
    (o : Option ScriptFile) (d : Deed) → slice_get scene.script_files i ≡ o
    → length s.journals ≡ length scene.script_files → n < count → AreSigned count s
    → AreSigned count (step_does scene n p s t i o d).state
does_signs scene n count p s t i None d e even l a = a
does_signs scene n count p s t i (Some script_file) d e even l a =
    let within : i < length scene.script_files =
    slice_get_within scene.script_files i script_file e in
    event_signs n count s i (inode_of scene script_file) (who_at n p t.call_state) d
    (outcome (inode_of scene script_file) s.list d (newest_first (journal_at s i))) (omega arith)
    (who_below n count p t.call_state l) a

check_signs : (scene : Scene) (n count : ℕ) (p : Program) (s : State) (t : Position) (i file : ℕ)
    (func : Func) (mask : ℕ) (o : Option ScriptFile) → slice_get scene.script_files i ≡ o
    → length s.journals ≡ length scene.script_files → n < count → AreSigned count s
    → AreSigned count (step_check scene n p s t i o file func mask).state
check_signs scene n count p s t i file func mask None e even l a = a
check_signs scene n count p s t i file func mask (Some script_file) e even l a =
    let within : i < length scene.script_files =
    slice_get_within scene.script_files i script_file e in
    let inside : i < length s.journals = omega arith in
    by (deed.Check file func (decided (rules_with scene s.added) p.cred script_file.place
    (metadata (newest_first (journal_at s i))) func mask)
    (length (rules_with scene s.added))) inside where
      by : (d : Deed) → i < length s.journals
          → AreSigned count (state_on s i (inode_of scene script_file) (who_at n p t.call_state) d
          (outcome (inode_of scene script_file) s.list d (newest_first (journal_at s i))))
      by d inside =
          event_signs n count s i (inode_of scene script_file) (who_at n p t.call_state) d
          (outcome (inode_of scene script_file) s.list d (newest_first (journal_at s i))) inside
          (who_below n count p t.call_state l) a

step_signs : (scene : Scene) (n count : ℕ) (p : Program) (s : State) (t : Position)
    (o : Option Step) → length s.journals ≡ length scene.script_files → n < count
    → AreSigned count s → AreSigned count (step_due scene n p s t o).state
step_signs scene n count p s t None even l a = a
step_signs scene n count p s t (Some Nothing) even l a = a
step_signs scene n count p s t (Some (Does i d)) even l a =
    does_signs scene n count p s t i (slice_get scene.script_files i) d refl even l a
step_signs scene n count p s t (Some (Checks i file func mask)) even l a =
    check_signs scene n count p s t i file func mask (slice_get scene.script_files i) refl even l a
step_signs scene n count p s t (Some (Signals d)) even l a =
    record { events = a.events; rules = a.rules }
step_signs scene n count p s t (Some (Appends rule)) even l a = record {
  events = a.events;
  rules = All-push (λ (r : RuleEntry). r.who.task < count) s.added
      (record {
        who = who_at n p t.call_state;
        rule = rule;
      }) a.rules (who_below n count p t.call_state l);
}

pub law_step_signs : StepSigns
law_step_signs scene n count p s t even l a =
    step_signs scene n count p s t (step_at p t.call_state) even l a
