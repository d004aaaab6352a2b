-- A turn or round that doesn't move changes nothing.
use Rattle.std.proofs.Common.{◌≡◌, inl, inr, ℕ, false, List, [], ◌∷◌, Option, Some, None, ◌<◌, length, refl, ap, subst, sym, ◌∙◌}
use Rattle.std.specs.Prelude.{slice_get, slice_set}
use Rattle.std.proofs.lemmas.List.{append-nil, set-get_or}
use Rattle.std.proofs.lemmas.Bool.{cases_order, or_parts, true≢false}
use Rattle.std.proofs.lemmas.Option.{get_or_from_slice_get}
use Rattle.call_steps.specs.policy.declared.access.Action.{Action}
use Rattle.inode_meta.specs.declared.step.Who.{Who}
use Rattle.call_steps.specs.policy.declared.rule.Func.{Func}
use Rattle.call_steps.specs.events.Checks.{no_action}
use Rattle.call_steps.specs.events.Asked.{outcome}
use Rattle.call_steps.specs.events.Inode.{Inode}
use Rattle.call_steps.specs.events.NewestFirst.{newest_first}
use Rattle.call_steps.specs.events.State.{metadata}
use Rattle.call_steps.specs.events.Semaphores.{semaphore_says}
use Rattle.call_steps.specs.events.declared.deed.Deed.{Deed}
use Rattle.call_steps.specs.events.declared.deed.Deed.TheVariants as deed
use Rattle.call_steps.specs.events.declared.told.Told.{Told}
use Rattle.call_steps.specs.CallState.{Step}
use Rattle.call_steps.specs.CallState.{Nothing, Does, Checks, Signals, Appends}
use Rattle.run_model.specs.History.{Position, step_at, who_at}
use Rattle.run_model.specs.Laws.{IdleRound, IdleTurn, OneEnd}
use Rattle.run_model.specs.Rounds.{RoundsTo, all_tasks, any_moves, is_moved, moves, moves_at, round_moves, rounds}
use Rattle.run_model.specs.Scene.{decided, Program, Scene, ScriptFile, inode_of, mode_of, rules_with}
use Rattle.run_model.specs.Turns.{Moment, State, Turned, journal_at, resume_told, state_on, step_check, step_does, step_due, step_event, step_signal, step_task, turn, turn_of, turned, turns_of}

-- a turn left the lists and the task unchanged
abbrev Same : Turned → State → Position → Type 0
Same r s t = (r.state ≡ s) × (r.position ≡ t)

-- a blocked event leaves the lists unchanged
blocked_state : (s : State) (i : ℕ) (inode : Inode) (w : Who) (d : Deed)
    → state_on s i inode w d None ≡ s
blocked_state s i inode w d =
    ap (λ js. record s { journals = js }) (ap (slice_set s.journals i)
    (append-nil (journal_at s i)) ∙ set-get_or s.journals i [])

event_told : (scene : Scene) (n : ℕ) (p : Program) (s : State) (t : Position) (i : ℕ)
    (inode : Inode) (d : Deed) (action : Action) (rules : ℕ) (o : Option Told)
    → is_moved (turn_of o) ≡ false
    → (state_on s i inode (who_at n p t.call_state) d o ≡ s)
    × (resume_told (mode_of scene) p t (length (journal_at s i)) action rules o ≡ t)
event_told scene n p s t i inode d action rules None still =
    (blocked_state s i inode (who_at n p t.call_state) d, refl)
event_told scene n p s t i inode d action rules (Some o) still = absurd (true≢false still)

event_idle : (scene : Scene) (n : ℕ) (p : Program) (s : State) (t : Position) (i : ℕ)
    (inode : Inode) (d : Deed) (action : Action) (rules : ℕ)
    → is_moved (step_event scene n p s t i inode d action rules).turn ≡ false
    → Same (step_event scene n p s t i inode d action rules) s t
event_idle scene n p s t i inode d action rules still =
    event_told scene n p s t i inode d action rules
    (outcome inode s.list d (newest_first (journal_at s i))) still

does_idle : (scene : Scene) (n : ℕ) (p : Program) (s : State) (t : Position) (i : ℕ)
    (script_file : Option ScriptFile) (d : Deed)
    → is_moved (step_does scene n p s t i script_file d).turn ≡ false
    → Same (step_does scene n p s t i script_file d) s t
does_idle scene n p s t i None d still = (refl, refl)
does_idle scene n p s t i (Some script_file) d still =
    event_idle scene n p s t i (inode_of scene script_file) d no_action 0 still

check_idle : (scene : Scene) (n : ℕ) (p : Program) (s : State) (t : Position) (i : ℕ)
    (script_file : Option ScriptFile) (file : ℕ) (func : Func) (mask : ℕ)
    → is_moved (step_check scene n p s t i script_file file func mask).turn ≡ false
    → Same (step_check scene n p s t i script_file file func mask) s t
check_idle scene n p s t i None file func mask still = (refl, refl)
check_idle scene n p s t i (Some script_file) file func mask still =
    let rules = rules_with scene s.added in
    let action = decided rules p.cred script_file.place (metadata (newest_first (journal_at s i)))
    func mask in
    event_idle scene n p s t i (inode_of scene script_file)
    (deed.Check file func action (length rules)) action (length rules) still

signal_idle : (scene : Scene) (n : ℕ) (p : Program) (s : State) (t : Position) (d : Deed)
    (o : Option Told)
    → is_moved (step_signal scene n p s t d o).turn ≡ false
    → Same (step_signal scene n p s t d o) s t
signal_idle scene n p s t d None still =
    (ap (λ es. record s { signals = es }) (append-nil s.signals), refl)
signal_idle scene n p s t d (Some o) still = absurd (true≢false still)

step_idle : (scene : Scene) (n : ℕ) (p : Program) (s : State) (t : Position) (step : Option Step)
    → is_moved (step_due scene n p s t step).turn ≡ false → Same (step_due scene n p s t step) s t
step_idle scene n p s t None still = (refl, refl)
step_idle scene n p s t (Some Nothing) still = absurd (true≢false still)
step_idle scene n p s t (Some (Does i d)) still =
    does_idle scene n p s t i (slice_get scene.script_files i) d still
step_idle scene n p s t (Some (Checks i file func mask)) still =
    check_idle scene n p s t i (slice_get scene.script_files i) file func mask still
step_idle scene n p s t (Some (Signals d)) still =
    signal_idle scene n p s t d (semaphore_says (newest_first s.signals) d) still
step_idle scene n p s t (Some (Appends rule)) still = absurd (true≢false still)

pub idle_turn : IdleTurn
idle_turn scene n p s t still = step_idle scene n p s t (step_at p t.call_state) still

-- ---- rounds

set_same : (ts : List Position) (n : ℕ) (t : Position) → slice_get ts n ≡ Some t
    → slice_set ts n t ≡ ts
set_same ts n t here =
    ap (slice_set ts n) (sym (get_or_from_slice_get ts n t t here)) ∙ set-get_or ts n t

turned_idle : (scene : Scene) (m : Moment) (n : ℕ) (p : Option Program) (t : Option Position)
    → slice_get m.positions n ≡ t
    → moves_at scene m n p t ≡ false → turned scene m n p t ≡ m
turned_idle scene m n None t here still = refl
turned_idle scene m n (Some p) None here still = refl
turned_idle scene m n (Some p) (Some t) here still =
    let same = idle_turn scene n p m.state t still in
    ap (λ (s : State). record {
      state = s;
      positions = slice_set m.positions n
          (step_task scene n p m.state t).position;
    }) same.0
    ∙ ap (λ (ts : List Position). record m { positions = ts })
    (ap (slice_set m.positions n) same.1 ∙ set_same m.positions n t here)

turn_idle : (scene : Scene) (m : Moment) (n : ℕ) → moves scene m n ≡ false → turn scene m n ≡ m
turn_idle scene m n still =
    turned_idle scene m n (slice_get scene.programs n) (slice_get m.positions n) refl still

turns_idle : (scene : Scene) (m : Moment) (ns : List ℕ) → any_moves scene m ns ≡ false
    → turns_of scene m ns ≡ m
turns_idle scene m [] still = refl
turns_idle scene m (n ∷ ns) still =
    let parts = or_parts (moves scene m n) (any_moves scene (turn scene m n) ns) still in
    let here = turn_idle scene m n parts.0 in
    ap (λ k. turns_of scene k ns) here ∙ turns_idle scene m ns
    (subst (λ k. any_moves scene k ns ≡ false) here parts.1)

pub idle_round : IdleRound
idle_round scene m still = turns_idle scene m (all_tasks scene) still

-- a round before the later end would move a task, but none moves at the earlier end
no_earlier : (scene : Scene) (first a b : Moment) (x : RoundsTo scene first a)
    (y : RoundsTo scene first b) → x.count < y.count → ⊥
no_earlier scene first a b x y below =
    true≢false (sym (y.before x.count below) ∙ subst
    (λ m. round_moves scene m ≡ false) x.ends x.still)

pub one_end : OneEnd
one_end scene first a b x y = elim (cases_order x.count y.count) [
  | inl same ↦ x.ends ∙ ap (λ k. rounds scene k first) same ∙ sym y.ends
  | inr other ↦ elim other [
    | inl below ↦ absurd
        (no_earlier scene first a b x y below)
    | inr above ↦ absurd
        (no_earlier scene first b a y x above)
  ]
]
