-- A turn that moves no task changes nothing.
use Rattle.std.proofs.Common.{◌≡◌, ℕ, zero, suc, ◌<◌, false, List, [], ◌∷◌, ◌++◌, length, get_or, Option, Some, None, refl, sym, ◌∙◌, ap, subst, arith, inl, inr}
use Rattle.std.specs.Prelude.{◌⊎◌, Contains, slice_get, slice_set}
use Rattle.std.proofs.lemmas.Bool.{cases_order, or_parts}
use Rattle.std.proofs.lemmas.List.{append-nil, set-get_or}
use Rattle.std.proofs.lemmas.List.Elements.{Contains-append_left, Contains-push}
use Rattle.std.proofs.lemmas.Option.{get_or_from_slice_get}
use Rattle.inode_events.specs.templates.declared.entry.Entry.{Entry}
use Rattle.inode_events.specs.policy.declared.access.Action.{Action}
use Rattle.inode_events.specs.policy.declared.rule.Func.{Func}
use Rattle.inode_events.specs.Asked.{asked, list_after, outcome}
use Rattle.inode_events.specs.Inode.{Inode}
use Rattle.inode_events.specs.NewestFirst.{newest_first}
use Rattle.inode_events.specs.Semaphores.{semaphore_says}
use Rattle.inode_events.specs.State.{metadata}
use Rattle.inode_events.specs.declared.deed.Deed.{Deed}
use Rattle.inode_events.specs.declared.deed.Deed.TheVariants as deed
use Rattle.inode_events.specs.declared.told.Event.{Event}
use Rattle.inode_events.specs.declared.told.Told.{Told}
use Rattle.call_steps.specs.CallState.{Step}
use Rattle.call_steps.specs.CallState.{Nothing, Does, Checks, Signals, Appends}
use Rattle.run_model.specs.History.{Position, step_at, who_at}
use Rattle.run_model.specs.Rounds.{any_moves, is_moved, moves, moves_at, numbers}
use Rattle.run_model.specs.Scene.{Program, Scene, ScriptFile, decided, inode_of, mode_of, rules_with}
use Rattle.run_model.specs.Turns.{Moment, State, Turned, journal_at, resume_told, state_on, step_check, step_does, step_due, step_signal, step_task, turn, turn_of, turned}
use Rattle.run_laws.specs.progress.Resting.{RoundAtRest}
use Rattle.list_lemmas.proofs.Containing.{has_cases, has_none}

abbrev IsSame : State → Position → Turned → Type 0
IsSame s t x = (x.state ≡ s) × (x.position ≡ t)

list_same : (list : List Entry) (o : Option Entry) → list_after list o None ≡ list
list_same list None = refl
list_same list (Some e) = refl

journals_same : (js : List (List Event)) (i : ℕ) → slice_set js i (get_or js i [] ++ []) ≡ js
journals_same js i = ap (slice_set js i) (append-nil (get_or js i [])) ∙ set-get_or js i []

event_same : (scene : Scene) (n : ℕ) (p : Program) (s : State) (t : Position) (i : ℕ)
    (inode : Inode) (d : Deed) (action : Action) (rules : ℕ) (o : Option Told)
    → is_moved (turn_of o) ≡ false
    → (state_on s i inode (who_at n p t.call_state) d o ≡ s)
    × (resume_told (mode_of scene) p t (length (journal_at s i)) action rules o ≡ t)
event_same scene n p s t i inode d action rules (Some x) h = cc
event_same scene n p s t i inode d action rules None h =
    let a : slice_set s.journals i (journal_at s i ++ []) ≡ s.journals =
    journals_same s.journals i in
    let b : list_after s.list (asked inode d (newest_first (journal_at s i))) None ≡ s.list =
    list_same s.list (asked inode d (newest_first (journal_at s i))) in
    ((λ k. record s { journals = a k; list = b k }), refl)

does_same : (scene : Scene) (n : ℕ) (p : Program) (s : State) (t : Position) (i : ℕ)
    (o : Option ScriptFile) (d : Deed) → is_moved (step_does scene n p s t i o d).turn ≡ false
    → IsSame s t (step_does scene n p s t i o d)
does_same scene n p s t i None d h = (refl, refl)
does_same scene n p s t i (Some script_file) d h =
    event_same scene n p s t i (inode_of scene script_file) d _ 0
    (outcome (inode_of scene script_file) s.list d (newest_first (journal_at s i))) h

check_same : (scene : Scene) (n : ℕ) (p : Program) (s : State) (t : Position) (i : ℕ)
    (o : Option ScriptFile) (file : ℕ) (func : Func) (mask : ℕ)
    → is_moved (step_check scene n p s t i o file func mask).turn ≡ false
    → IsSame s t (step_check scene n p s t i o file func mask)
check_same scene n p s t i None file func mask h = (refl, refl)
check_same scene n p s t i (Some script_file) file func mask h =
    let action : Action =
    decided (rules_with scene s.added) p.cred script_file.place
    (metadata (newest_first (journal_at s i))) func mask in
    let d : Deed =
    deed.Check file func (decided (rules_with scene s.added) p.cred script_file.place
    (metadata (newest_first (journal_at s i))) func mask) (length (rules_with scene s.added)) in
    event_same scene n p s t i (inode_of scene script_file) d action
    (length (rules_with scene s.added)) (outcome (inode_of scene script_file) s.list d
    (newest_first (journal_at s i))) h

signal_same : (scene : Scene) (n : ℕ) (p : Program) (s : State) (t : Position) (d : Deed)
    (o : Option Told) → is_moved (turn_of o) ≡ false → IsSame s t (step_signal scene n p s t d o)
signal_same scene n p s t d (Some x) h = cc
signal_same scene n p s t d None h = let a : s.signals ++ [] ≡ s.signals =
    append-nil s.signals in ((λ k. record s { signals = a k }), refl)

step_same : (scene : Scene) (n : ℕ) (p : Program) (s : State) (t : Position) (o : Option Step)
    → is_moved (step_due scene n p s t o).turn ≡ false → IsSame s t (step_due scene n p s t o)
step_same scene n p s t None h = (refl, refl)
step_same scene n p s t (Some Nothing) h = cc
step_same scene n p s t (Some (Does i d)) h =
    does_same scene n p s t i (slice_get scene.script_files i) d h
step_same scene n p s t (Some (Checks i file func mask)) h =
    check_same scene n p s t i (slice_get scene.script_files i) file func mask h
step_same scene n p s t (Some (Signals d)) h =
    signal_same scene n p s t d (semaphore_says (newest_first s.signals) d) h
step_same scene n p s t (Some (Appends rule)) h = cc

set_same : {A : Type 0} (xs : List A) (k : ℕ) (x : A) → slice_get xs k ≡ Some x
    → slice_set xs k x ≡ xs
set_same xs k x h = ap (slice_set xs k) (sym (get_or_from_slice_get xs k x x h)) ∙ set-get_or xs k x

turned_same : (scene : Scene) (m : Moment) (n : ℕ) (o : Option Program) (q : Option Position)
    → slice_get m.positions n ≡ q → moves_at scene m n o q ≡ false → turned scene m n o q ≡ m
turned_same scene m n None q e h = refl
turned_same scene m n (Some p) None e h = refl
turned_same scene m n (Some p) (Some t) e h =
    let same : IsSame m.state t (step_task scene n p m.state t) =
    step_same scene n p m.state t (step_at p t.call_state) h in
    let positions : slice_set m.positions n (step_task scene n p m.state t).position ≡ m.positions =
    ap (slice_set m.positions n) same.1 ∙ set_same m.positions n t e in
    (λ k. record { state = same.0 k; positions = positions k })

turn_same : (scene : Scene) (m : Moment) (n : ℕ) → moves scene m n ≡ false → turn scene m n ≡ m
turn_same scene m n h =
    turned_same scene m n (slice_get scene.programs n) (slice_get m.positions n) refl h

none_moves : (scene : Scene) (m : Moment) (ns : List ℕ) → any_moves scene m ns ≡ false → (n : ℕ)
    → Contains ns n → moves scene m n ≡ false
none_moves scene m [] h n c = absurd (has_none n c)
none_moves scene m (k ∷ ns) h n c =
    let parts : (moves scene m k ≡ false) × (any_moves scene (turn scene m k) ns ≡ false) =
    or_parts (moves scene m k) (any_moves scene (turn scene m k) ns) h in
    let rest : any_moves scene m ns ≡ false =
    subst (λ (x : Moment). any_moves scene x ns ≡ false)
    (turn_same scene m k parts.0) parts.1 in
    at parts.0 (none_moves scene m ns rest n) (has_cases k n ns c) where
      at : moves scene m k ≡ false → (Contains ns n → moves scene m n ≡ false)
          → (k ≡ n) ⊎ Contains ns n → moves scene m n ≡ false
      at here ih (inl e) = subst (λ (x : ℕ). moves scene m x ≡ false) e here
      at here ih (inr r) = ih r

has_number : (k n : ℕ) → n < k → Contains (numbers k) n
has_number zero n l = absurd (omega arith)
has_number (suc k) n l = at (has_number k n) (cases_order n k) where
  at : (n < k → Contains (numbers k) n) → (n ≡ k) ⊎ ((n < k) ⊎ (k < n))
      → Contains (numbers k ++ k ∷ []) n
  at ih (inl e) =
      subst (λ (x : ℕ). Contains (numbers k ++ k ∷ []) x) (sym e) (Contains-push (numbers k) k)
  at ih (inr (inl x)) = Contains-append_left (numbers k) (k ∷ []) n (ih x)
  at ih (inr (inr x)) = absurd (omega arith)

pub round_at_rest : RoundAtRest
round_at_rest scene m h n l =
    none_moves scene m (numbers (length scene.programs)) h n
    (has_number (length scene.programs) n l)
